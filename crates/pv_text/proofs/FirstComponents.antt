-- The first component of a path.
use Rattle.std.proofs.Common.{◌≡◌, ◌∙◌, ap, ℕ, suc, ◌+◌, ◌-◌, ◌≤◌, ◌<◌, true, false, not, cond, [], ◌∷◌, length, take, drop, Option, None, Some, refl, sym, arith}
use Rattle.std.specs.Prelude.{◌==◌}
use Rattle.std.specs.List.{position_or_len}
use Rattle.std.proofs.lemmas.List.{take_all}
use Rattle.pv_model.specs.Machine.{Bytes, onto_first, split_slashes}
use Rattle.pv_text.specs.Components.{components_after}

abbrev pub end_of_component : Bytes → ℕ
end_of_component bs = position_or_len (λ b. b == 47) bs

-- the path after its first component, or None at the end
abbrev pub rest_of : Bytes → Option Bytes
rest_of [] = None
rest_of (b ∷ bs) = Some bs

onto_component : (b : ℕ) (bs : Bytes) (end : ℕ) → split_slashes bs ≡ take end bs ∷ components_after (rest_of (drop end bs))
    → onto_first b (split_slashes bs) ≡ take (1 + end) (b ∷ bs) ∷ components_after (rest_of (drop (1 + end) (b ∷ bs)))
onto_component b bs end h = let one_more : 1 + end ≡ suc end = omega arith in rw (h, one_more) refl

pub first_component : (bs : Bytes) → split_slashes bs ≡ take (end_of_component bs) bs ∷ components_after (rest_of (drop (end_of_component bs) bs))
first_component [] = refl
first_component (b ∷ bs) =
    elim (b == 47) as (λ t. cond t ([] ∷ split_slashes bs) (onto_first b (split_slashes bs))
    ≡ take (cond (not t) (1 + end_of_component bs) 0) (b ∷ bs) ∷ components_after (rest_of (drop (cond (not t) (1 + end_of_component bs) 0) (b ∷ bs)))) [
      | true ↦ refl
      | false ↦ onto_component b bs (end_of_component bs) (first_component bs)
    ]

rest_is : (bs : Bytes) → 1 ≤ length bs → rest_of bs ≡ Some (take (length bs - 1) (drop 1 bs))
rest_is [] some = absurd (omega arith)
rest_is (b ∷ bs) some = ap (λ (r : Bytes). Some r) (sym (take_all (length (b ∷ bs) - 1) bs (omega arith)))

no_rest : (bs : Bytes) → length bs < 1 → rest_of bs ≡ None
no_rest [] none = refl
no_rest (b ∷ bs) none = absurd (omega arith)

-- the components of a path that is split after its first component
pub component_split : (bs component rest : Bytes) (end : ℕ) → end ≡ end_of_component bs → component ≡ take end bs → rest ≡ drop end bs → 1 ≤ length rest
    → split_slashes bs ≡ component ∷ split_slashes (take (length rest - 1) (drop 1 rest))
component_split bs component rest end is front back some =
    first_component bs ∙ rw (front, is) (ap (λ r. take (end_of_component bs) bs ∷ components_after r) (ap rest_of (sym (back ∙ ap (λ n. drop n bs) is)) ∙ rest_is rest some))

pub component_last : (bs component rest : Bytes) (end : ℕ) → end ≡ end_of_component bs → component ≡ take end bs → rest ≡ drop end bs → length rest < 1 → split_slashes bs ≡ component ∷ []
component_last bs component rest end is front back none =
    first_component bs ∙ rw (front, is) (ap (λ r. take (end_of_component bs) bs ∷ components_after r) (ap rest_of (sym (back ∙ ap (λ n. drop n bs) is)) ∙ no_rest rest none))
