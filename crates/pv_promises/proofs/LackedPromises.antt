-- The promise that two lists of needs lack.
use Rattle.std.proofs.Common.{◌≡◌, cond, true, false, Option, Some, List, [], ◌∷◌, ◌++◌, refl}
use Rattle.std.specs.Option.{option_or}
use Rattle.pv_model.specs.Machine.{Promises, Need, is_met, missing_promise}

-- the promise that the first list lacks comes first
pub missing_promise-append : (held : Option Promises) (a b : List Need) → missing_promise held (a ++ b) ≡ option_or (missing_promise held a) (missing_promise held b)
missing_promise-append held [] b = refl
missing_promise-append held ([] ∷ a) b = missing_promise-append held a b
missing_promise-append held ((p ∷ ps) ∷ a) b =
    elim (is_met held (p ∷ ps)) as (λ m. cond m (missing_promise held (a ++ b)) (Some p) ≡ option_or (cond m (missing_promise held a) (Some p)) (missing_promise held b)) [
      | true ↦ missing_promise-append held a b
      | false ↦ refl
    ]
