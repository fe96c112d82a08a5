use Rattle.pv_laws_trees.proofs.NodeRoom.{smaller-not_too_long}
use Rattle.pv_laws_trees.proofs.room.smaller_is_not_too_long.Goals as goal

pub returns : goal.returns
returns c = smaller-not_too_long
