use Rattle.pv_laws_steps.proofs.OffsetSteps.{offsets-commute}
use Rattle.pv_laws_steps.proofs.offsets.offset_steps_commute.Goals as goal

pub returns : goal.returns
returns c = offsets-commute
