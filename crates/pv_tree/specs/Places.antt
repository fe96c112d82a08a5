-- Places with borrowed names.
use Rattle.std.specs.Prelude.{◌≤◌, ⊤, length}
use Rattle.pv_model.specs.declared.limits.TheConstants.{NAME_V2}
use Rattle.pv_model.specs.declared.place.Place.{Place}
use Rattle.pv_tree.specs.declared.place.Spot.{Spot}
use Rattle.pv_tree.specs.declared.place.Spot.TheVariants.{At, Node}
use Rattle.pv_model.specs.declared.place.Place.TheVariants.{At as PlaceAt, Node as PlaceNode}

-- the place
abbrev pub place_of_spot : Spot → Place
place_of_spot (At directory name node) = PlaceAt directory name.now node
place_of_spot (Node n) = PlaceNode n

-- its name does not exceed the maximum length of a name
abbrev pub IsShort : Spot → Type 0
IsShort (At _ name _) = length name.now ≤ NAME_V2
IsShort (Node _) = ⊤
