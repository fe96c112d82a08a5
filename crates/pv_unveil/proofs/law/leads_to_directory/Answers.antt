use Rattle.pv_unveil.proofs.ClimbSteps.{resolve-directory}
use Rattle.pv_unveil.proofs.law.leads_to_directory.Goals as goal

pub returns : goal.returns
returns c = resolve-directory
