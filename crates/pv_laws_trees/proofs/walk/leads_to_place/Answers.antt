use Rattle.pv_laws_trees.proofs.WalkPlaces.{leads-to_place}
use Rattle.pv_laws_trees.proofs.walk.leads_to_place.Goals as goal

pub returns : goal.returns
returns c = leads-to_place
