-- Text that is appended.
use Rattle.std.specs.Prelude.{◌≡◌, ℕ, ◌++◌, List, Result, OnOk}
use Rattle.std.specs.Global.{Vec}
use Rattle.pv_model.specs.Machine.{Bytes, ended}

-- success: exactly this text was appended
abbrev pub AppendsText : {T E : Type 0} → Bytes → (before after : Vec ℕ) → Result T E → Type 0
AppendsText text before after result = OnOk result (after.items ≡ before.items ++ text)

-- success: exactly these lines were appended
abbrev pub AppendsLines : {T E : Type 0} → List Bytes → (before after : Vec ℕ) → Result T E → Type 0
AppendsLines lines before after result = AppendsText (ended lines) before after result
