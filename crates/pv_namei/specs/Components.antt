-- Encoding of components.
use Rattle.std.specs.Prelude.{List, [], ◌∷◌, ◌++◌}
use Rattle.pv_model.specs.Machine.{Bytes}

-- the components with a slash after each
abbrev pub with_slashes : List Bytes → Bytes
with_slashes [] = []
with_slashes (p ∷ ps) = p ++ 47 ∷ with_slashes ps
