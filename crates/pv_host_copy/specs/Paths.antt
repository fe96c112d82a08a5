-- The paths of an import and of an export.
use Rattle.std.specs.Prelude.{◌∷◌, ◌++◌}
use Rattle.pv_model.specs.Machine.{Bytes}

-- the path of a name in a directory; the path of the root is empty
abbrev pub path_under : Bytes → Bytes → Bytes
path_under path name = path ++ 47 ∷ name
