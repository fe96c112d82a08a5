use Rattle.pv_laws_steps.proofs.UnveilExampleRuns.{full_images-happen}
use Rattle.pv_laws_steps.proofs.commute_examples.full_images_happen.Goals as goal

pub returns : goal.returns
returns c = full_images-happen
