use Rattle.pv_laws_trees.proofs.Collection.{in_turn}
use Rattle.pv_laws_trees.proofs.preserved.lets_go_in_turn.Goals as goal

pub returns : goal.returns
returns c = in_turn
