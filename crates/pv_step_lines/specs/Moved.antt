-- The number of bytes that a call moves, if their meaning has a fixed size.
use Rattle.std.specs.Prelude.{◌≡◌, ◌⊎◌, ⊤, [], length}
use Rattle.pv_model.specs.declared.call.Call.{Call}
use Rattle.pv_model.specs.declared.call.Call.TheVariants.{Wait, Fstat, Stat, Lstat}
use Rattle.pv_model.specs.Machine.{Bytes}

-- four bytes for a wait, and eight for a status
abbrev pub HasSize : Call → Bytes → Type 0
HasSize Wait bytes = length bytes ≡ 4
HasSize (Stat path) bytes = length bytes ≡ 8
HasSize (Lstat path) bytes = length bytes ≡ 8
HasSize (Fstat d) bytes = length bytes ≡ 8
HasSize call bytes = ⊤

-- no bytes, or bytes of that size
abbrev pub IsEmptyOrSized : Call → Bytes → Type 0
IsEmptyOrSized call bytes = (bytes ≡ []) ⊎ HasSize call bytes
