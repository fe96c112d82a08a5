use Rattle.pv_text.proofs.TextLines.{word_is, after_word_is}
use Rattle.pv_text.proofs.lines.split_word.Goals as goal

pub returns-clause-word : goal.returns-clause-word
returns-clause-word c = rw word_is (cc)

pub returns-clause-following : goal.returns-clause-following
returns-clause-following c = rw after_word_is (cc)
