use Rattle.pv_laws_answers.proofs.OtherRestraints.{needed-promises}
use Rattle.pv_laws_answers.proofs.process_images.listed_promises_are_needed.Goals as goal

pub returns : goal.returns
returns c = needed-promises
