use Rattle.pv_questions.proofs.CutSchedules.{cut_steps}
use Rattle.pv_questions.proofs.laws.cuts_keep_first_steps.Goals as goal

pub returns : goal.returns
returns c = cut_steps
