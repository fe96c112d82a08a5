use Rattle.pv_laws_runs.proofs.RunPremises.{image-start}
use Rattle.pv_laws_runs.proofs.runs.images_start.Goals as goal

pub returns : goal.returns
returns c = image-start
