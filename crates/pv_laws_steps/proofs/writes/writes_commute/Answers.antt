use Rattle.pv_laws_steps.proofs.WriteSteps.{writes-commute}
use Rattle.pv_laws_steps.proofs.writes.writes_commute.Goals as goal

pub returns : goal.returns
returns c = writes-commute
