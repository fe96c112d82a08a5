use Rattle.pv_laws_access.proofs.SealedSteps.{closed-held}
use Rattle.pv_laws_access.proofs.sealing.closed_is_held_over_exec.Goals as goal

pub returns : goal.returns
returns c = closed-held
