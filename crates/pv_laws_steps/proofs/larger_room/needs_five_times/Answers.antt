use Rattle.pv_laws_steps.proofs.LargerNeeds.{needs-five_times}
use Rattle.pv_laws_steps.proofs.larger_room.needs_five_times.Goals as goal

pub returns : goal.returns
returns c = needs-five_times
