use Rattle.pv_laws_grammar.proofs.EqualSources.{comments-none, same-code}
use Rattle.pv_laws_grammar.proofs.sources.comments_change_nothing.Goals as goal

pub returns : goal.returns
returns c = record { lines = comments-none; same = same-code }
