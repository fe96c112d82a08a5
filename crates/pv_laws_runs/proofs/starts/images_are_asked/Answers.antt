use Rattle.pv_laws_runs.proofs.RunChecks.{asks-image, image-asks}
use Rattle.pv_laws_runs.proofs.starts.images_are_asked.Goals as goal

pub returns : goal.returns
returns c image turns it = (image-asks image turns it, asks-image image turns it)
