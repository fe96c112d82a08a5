-- The lines of skipped entries, one by one.
use Rattle.std.proofs.Common.{◌≡◌, ◌++◌, ◌∙◌, ap, Option, None, Some, append_assoc}
use Rattle.pv_model.specs.Machine.{Bytes}
use Rattle.pv_streams.specs.Sinks.{and_all}

-- a line, and then those after it
pub lines-step : (now next : Option Bytes) (line more : Bytes) → next ≡ and_all now line → and_all next more ≡ and_all now (line ++ more)
lines-step None next line more is = ap (λ t. and_all t more) is
lines-step (Some had) next line more is = ap (λ t. and_all t more) is ∙ ap Some (append_assoc had line more)
