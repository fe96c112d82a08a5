-- The components of a path that remain.
use Rattle.std.specs.Prelude.{ℕ, ◌+◌, List, [], length, Option, None, Some}
use Rattle.pv_model.specs.Machine.{Bytes, split_slashes}

-- the components after a slash, if there is one
abbrev pub components_after : Option Bytes → List Bytes
components_after None = []
components_after (Some path) = split_slashes path

-- the length of the rest of a path plus one, which decreases
abbrev pub left_in : Option Bytes → ℕ
left_in None = 0
left_in (Some path) = length path + 1
