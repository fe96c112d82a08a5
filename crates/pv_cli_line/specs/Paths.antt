-- Paths in the form in which answers write them.
use Rattle.std.specs.Prelude.{Bool, true, not, ◌&&◌, ◌||◌, nat_eq, [], ◌∷◌, bytes_eq, codes}
use Rattle.std.specs.List.{starts_with}
use Rattle.pv_model.specs.Bytes.{Bytes}

-- a part of a path, up to its end, does not begin with a slash before a name that is empty, `.` or `..`
abbrev pub begins_plainly : Bytes → Bool
begins_plainly rest =
    not (bytes_eq rest (codes "/") || bytes_eq rest (codes "/.") || bytes_eq rest (codes "/..")
    || starts_with nat_eq rest (codes "//") || starts_with nat_eq rest (codes "/./") || starts_with nat_eq rest (codes "/../"))

-- no name of a path is empty, `.` or `..`
abbrev pub has_plain_names : Bytes → Bool
has_plain_names [] = true
has_plain_names (b ∷ bs) = begins_plainly (b ∷ bs) && has_plain_names bs

-- a path begins with a slash, and no name of it is empty, `.` or `..`; the path of the root is a slash
abbrev pub is_plain_path : Bytes → Bool
is_plain_path path = bytes_eq path (codes "/") || (starts_with nat_eq path (codes "/") && has_plain_names path)
