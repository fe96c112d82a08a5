use Rattle.pv_laws_runs.proofs.RunPremises.{accepted-start}
use Rattle.pv_laws_runs.proofs.runs.accepted_images_start.Goals as goal

pub returns : goal.returns
returns c = accepted-start
