use Rattle.std.proofs.Common.{◌∙◌}
use Rattle.pv_questions.proofs.SourceFormats.{headed, not_headed}
use Rattle.pv_questions.proofs.input.is_headed.Goals as goal

pub returns-in-Some : goal.returns-in-Some
returns-in-Some c = c.is_word_end.ensures ∙ headed c.args.line.now _ c.in-Some.ensures.cases.0 c.in-Some.ensures.cases.1

pub returns-in-None : goal.returns-in-None
returns-in-None c = not_headed c.args.line.now c.in-None.ensures.cases
