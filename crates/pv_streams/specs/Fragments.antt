-- The text of an optional fragment.
use Rattle.std.specs.Prelude.{[], Option, None, Some}
use Rattle.pv_model.specs.Machine.{Bytes}

abbrev pub text_where : {P : Type 0} → (P → Bytes) → Option P → Bytes
text_where text None = []
text_where text (Some p) = text p
