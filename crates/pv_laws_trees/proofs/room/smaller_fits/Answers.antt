use Rattle.pv_laws_trees.proofs.NodeRoom.{smaller-fits}
use Rattle.pv_laws_trees.proofs.room.smaller_fits.Goals as goal

pub returns : goal.returns
returns c = smaller-fits
