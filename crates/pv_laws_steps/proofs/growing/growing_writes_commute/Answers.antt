use Rattle.pv_laws_steps.proofs.WriteSteps.{growing-writes-commute}
use Rattle.pv_laws_steps.proofs.growing.growing_writes_commute.Goals as goal

pub returns : goal.returns
returns c = growing-writes-commute
