use Rattle.pv_laws_steps.proofs.LargerRuns.{larger-keeps_steps}
use Rattle.pv_laws_steps.proofs.larger_runs.larger_keeps_steps.Goals as goal

pub returns : goal.returns
returns c = larger-keeps_steps
