use Rattle.pv_text.proofs.WordsAndTexts.{short_escape}
use Rattle.pv_text.proofs.texts.escape.Goals as goal

pub returns-in_default-clause-read : goal.returns-in_default-clause-read
returns-in_default-clause-read c = short_escape c.args.bytes.now c.in_default.len_below
