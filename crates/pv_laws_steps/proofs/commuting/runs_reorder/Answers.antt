use Rattle.pv_laws_steps.proofs.ReorderedRuns.{runs-reorder}
use Rattle.pv_laws_steps.proofs.commuting.runs_reorder.Goals as goal

pub returns : goal.returns
returns c = runs-reorder
