use Rattle.pv_laws_trees.proofs.WalkPlaces.{resolve-alike}
use Rattle.pv_laws_trees.proofs.walk.walks_alike.Goals as goal

pub returns : goal.returns
returns c = resolve-alike
