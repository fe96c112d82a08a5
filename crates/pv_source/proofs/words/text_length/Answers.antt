use Rattle.std.proofs.Common.{arith}
use Rattle.pv_source.proofs.SourceWords.{text_end_at}
use Rattle.pv_source.proofs.words.text_length.Goals as goal

pub returns-clause-word : goal.returns-clause-word
returns-clause-word c =
    text_end_at c.args.bytes.now _ c.first_of-quote.result c.first_blank.result c.first_of-quote.ensures.first (omega arith) c.split_at.ensures.back c.first_blank.ensures.first
