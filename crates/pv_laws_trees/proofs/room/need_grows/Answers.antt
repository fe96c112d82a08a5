use Rattle.pv_laws_trees.proofs.NodeRoom.{need_grows}
use Rattle.pv_laws_trees.proofs.room.need_grows.Goals as goal

pub returns : goal.returns
returns c = need_grows
