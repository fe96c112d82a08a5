use Rattle.pv_laws_steps.proofs.LargerRuns.{larger-has_room}
use Rattle.pv_laws_steps.proofs.larger_room.larger_has_room.Goals as goal

pub returns : goal.returns
returns c = larger-has_room
