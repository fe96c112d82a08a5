use Rattle.pv_laws_answers.proofs.ParentNumbers.{first-older}
use Rattle.pv_laws_answers.proofs.waits.first_parents_are_older.Goals as goal

pub returns : goal.returns
returns c = first-older
