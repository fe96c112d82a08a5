use Rattle.pv_laws_runs.proofs.RunPremises.{bundle-start}
use Rattle.pv_laws_runs.proofs.runs.bundles_start.Goals as goal

pub returns : goal.returns
returns c = bundle-start
