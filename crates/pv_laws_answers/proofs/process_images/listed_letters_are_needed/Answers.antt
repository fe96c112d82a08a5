use Rattle.pv_laws_answers.proofs.OtherRestraints.{needed-single}
use Rattle.pv_laws_answers.proofs.process_images.listed_letters_are_needed.Goals as goal

pub returns : goal.returns
returns c = needed-single
