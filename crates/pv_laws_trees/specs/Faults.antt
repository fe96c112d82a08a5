-- The first error of bytes that are not an image.
use Rattle.std.specs.Prelude.{◌≡◌, ◌↔◌, Err}
use Rattle.pv_model.specs.declared.fault.ImageFault.{ImageFault}
use Rattle.pv_model.specs.Machine.{Bytes, mounted}
use Rattle.pv_model.specs.Mount.{IsErrorOf}

-- `mounted` gives an error if and only if it is the first
abbrev pub FirstErrorIsNamed : Type 0
FirstErrorIsNamed = (bytes : Bytes) (fault : ImageFault) → (mounted bytes ≡ Err fault) ↔ IsErrorOf bytes fault
