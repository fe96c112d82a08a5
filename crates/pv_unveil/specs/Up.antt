-- The parent from which a directory inherits its rights, and the directory of a place.
use Rattle.std.specs.Prelude.{◌≡◌, ℕ, IsTrue, Option, None, Ok, if◌then◌else◌, ◌==◌}
use Rattle.pv_model.specs.declared.follow.Follow.{Follow}
use Rattle.pv_model.specs.declared.place.Place.{Place}
use Rattle.pv_model.specs.declared.place.Place.TheVariants.{At, Node as Unnamed}
use Rattle.pv_model.specs.Machine.{Bytes, Tree, root, is_directory_at, parent, IsWellFormed, resolve}

-- the parent of a directory; the root and removed directories have none here
abbrev pub up : Tree → ℕ → Option ℕ
up t d = if d == root then None else parent t d

-- the directory of a place: the one that contains its name, or the node itself if it has no name
abbrev pub directory_of_place : Place → ℕ
directory_of_place (Unnamed d) = d
directory_of_place (At d name n) = d

-- a path leads from a directory to a place of a directory
abbrev pub LeadsToDirectory : Type 0
LeadsToDirectory =
    (t : Tree) → IsWellFormed t → (follow : Follow) (start : ℕ) (path : Bytes) (place : Place) → IsTrue (is_directory_at t start)
    → resolve t follow start path ≡ Ok place → IsTrue (is_directory_at t (directory_of_place place))
