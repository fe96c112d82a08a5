use Rattle.pv_laws_trees.proofs.WalkRelations.{walks-once}
use Rattle.pv_laws_trees.proofs.walk.walks_once.Goals as goal

pub returns : goal.returns
returns c = walks-once
