use Rattle.std.proofs.Common.{ap}
use Rattle.pv_model.specs.Machine.{between, words_from, words_of}
use Rattle.pv_source.proofs.SourceWords.{content_is}
use Rattle.pv_source.proofs.words.content.Goals as goal

pub returns : goal.returns
unfolding words_of
returns c = ap (λ bs. words_from bs between) (content_is c.before_last.result _ c.args.line c.unwrap_or.result c.before_last.ensures c.unwrap_or.ensures)
