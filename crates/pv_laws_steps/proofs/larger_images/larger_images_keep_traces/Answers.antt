use Rattle.pv_laws_steps.proofs.LargerImages.{larger-images}
use Rattle.pv_laws_steps.proofs.larger_images.larger_images_keep_traces.Goals as goal

pub returns : goal.returns
returns c = larger-images
