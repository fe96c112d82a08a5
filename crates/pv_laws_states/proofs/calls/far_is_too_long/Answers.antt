use Rattle.pv_laws_states.proofs.LengthLimits.{far-too_long}
use Rattle.pv_laws_states.proofs.calls.far_is_too_long.Goals as goal

pub returns : goal.returns
returns c = far-too_long
