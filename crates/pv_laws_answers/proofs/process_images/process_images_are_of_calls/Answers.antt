use Rattle.pv_laws_answers.proofs.ListedNeeds.{process_images-are}
use Rattle.pv_laws_answers.proofs.process_images.process_images_are_of_calls.Goals as goal

pub returns : goal.returns
returns c = process_images-are
