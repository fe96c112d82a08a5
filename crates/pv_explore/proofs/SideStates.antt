-- The states of one side of a search of pairs.
use Rattle.std.proofs.Common.{◌≡◌, ◌∙◌, sym, ap, ℕ, List, [], bytes_eq, length, Option, Some, subst, inl, inr}
use Rattle.std.proofs.lemmas.Option.{slice_get-get_or}
use Rattle.pv_explore.specs.declared.states.Visit.{Visit}
use Rattle.pv_explore.specs.declared.states.Visit.TheVariants.{Known, Full, New}
use Rattle.pv_explore.specs.Plan.{state_key}
use Rattle.pv_explore.specs.Rows.{number_in, IsAmong}
use Rattle.pv_explore.specs.Sides.{IsNumbered, visit_number}
use Rattle.pv_explore.specs.VisitedStates.{HasNumber, IsFoundIn}
use Rattle.pv_explore.proofs.StateRows.{among-last, get-number, number-last, number-within}
use Rattle.pv_model.specs.Machine.{Bytes, State}
use Rattle.pv_step_cache.proofs.KeyLists.{number-some, there-some}

-- the visit of a state gives its number
pub numbered : (limit : ℕ) (old new : List Bytes) (key : Bytes) (found : Visit) → IsFoundIn limit old new key found → IsNumbered limit old new key (visit_number found (length old))
numbered limit old new key (Known n) it = (
  number-some (bytes_eq key) old n (sym it.0) ∙ ap (λ table. number_in table key) (sym it.1),
  subst (λ table. IsAmong table key) (sym it.1) (record { is = there-some (bytes_eq key) old n [] (sym it.0) }),
  inl it.1,
)
numbered limit old new key Full it = it
numbered limit old new key New it =
    (sym (number-last old key it.0) ∙ ap (λ table. number_in table key) (sym it.2), subst (λ table. IsAmong table key) (sym it.2) (among-last old key), inr it)

-- a state that is stored has its number
pub has-number : (keys : List Bytes) (s : State) → IsAmong keys (state_key s) → HasNumber keys (number_in keys (state_key s)) s
has-number keys s among =
    slice_get-get_or keys (number_in keys (state_key s)) [] (number-within keys (state_key s) among) ∙ ap Some (get-number keys (state_key s) among)

-- the same as a caller states it
pub numbered-by : (limit : ℕ) (old other new : List Bytes) (t u : State) (found : Visit) (before : ℕ) (number : Option ℕ) → IsFoundIn limit old new (state_key t) found
    → old ≡ other → t ≡ u → before ≡ length old → number ≡ visit_number found before → IsNumbered limit other new (state_key u) number
numbered-by limit old other new t u found before number it old_is t_is before_is number_is =
    subst (λ (n : Option ℕ). IsNumbered limit other new (state_key u) n) (sym (number_is ∙ ap (visit_number found) before_is))
    (subst (λ (v : State). IsNumbered limit other new (state_key v) (visit_number found (length old))) t_is
    (subst (λ (keys : List Bytes). IsNumbered limit keys new (state_key t) (visit_number found (length old))) old_is (numbered limit old new (state_key t) found it)))
