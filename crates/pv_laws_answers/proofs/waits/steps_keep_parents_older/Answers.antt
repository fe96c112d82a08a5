use Rattle.pv_laws_answers.proofs.ParentNumbers.{older-step}
use Rattle.pv_laws_answers.proofs.waits.steps_keep_parents_older.Goals as goal

pub returns : goal.returns
returns c = older-step
