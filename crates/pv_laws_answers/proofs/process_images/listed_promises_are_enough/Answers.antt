use Rattle.pv_laws_answers.proofs.OtherRestraints.{enough-promises}
use Rattle.pv_laws_answers.proofs.process_images.listed_promises_are_enough.Goals as goal

pub returns : goal.returns
returns c = enough-promises
