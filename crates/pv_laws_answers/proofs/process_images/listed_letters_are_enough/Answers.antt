use Rattle.pv_laws_answers.proofs.OtherRestraints.{enough-single}
use Rattle.pv_laws_answers.proofs.process_images.listed_letters_are_enough.Goals as goal

pub returns : goal.returns
returns c = enough-single
