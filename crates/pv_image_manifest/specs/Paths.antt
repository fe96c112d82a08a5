-- The paths of entries, in an image of either version.
use Rattle.std.specs.Prelude.{Bool, false, ◌&&◌, ◌==◌, [], ◌∷◌}
use Rattle.std.specs.List.{list_all}
use Rattle.pv_model.specs.declared.version.Version.{Version}
use Rattle.pv_model.specs.Machine.{Bytes, is_name, split_slashes}

-- a slash followed by one or more names that are separated by single slashes
abbrev pub is_path : Version → Bytes → Bool
is_path v [] = false
is_path v (b ∷ bs) = (b == 47) && list_all (is_name v) (split_slashes bs)
