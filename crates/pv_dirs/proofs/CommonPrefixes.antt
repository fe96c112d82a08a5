-- The bytes that two names and the names between them have in common.
use Rattle.std.proofs.Common.{◌≡◌, ℕ, zero, suc, ◌<◌, length, take, drop, get_or, [], ◌∷◌, Bool, true, false, ◌&&◌, cond, Option, Some, refl, ap, sym, ◌∙◌, arith}
use Rattle.std.proofs.lemmas.List.{length-take, get_or-take}
use Rattle.std.specs.FinMap.{nat_cmp-IsAntisymmetric}
use Rattle.std.specs.Ordering.{nat_cmp, ordering_then, ordering_reverse}
use Rattle.std.specs.declared.cmp.Ordering.TheVariants.{Less, Equal, Greater}
use Rattle.std.proofs.lemmas.Cmp.{nat_cmp_total}
use Rattle.pv_model.specs.Machine.{Bytes, is_past}
use Rattle.pv_dirs.specs.Listing.{is_before, better_of, IsShared}
use Rattle.pv_dirs.specs.Slots.{name_in_slot}
use Rattle.pv_dirs.proofs.SortedEntries.{by_name}

-- a name between two names with a common prefix has the same prefix; this states it for the last byte
pub between : (l x b : Bytes) (p : ℕ) → p < length l → p < length b → take (suc p) l ≡ take (suc p) b → by_name l x ≡ Less → by_name x b ≡ Less
    → (p < length x) × (get_or x p 0 ≡ get_or b p 0)
between [] x b p in_l in_b same above below = omega arith
between (a ∷ l) x [] p in_l in_b same above below = omega arith
between (a ∷ l) [] (c ∷ b) p in_l in_b same above below = cc
between (a ∷ l) (y ∷ x) (c ∷ b) p in_l in_b same above below =
    let first : a ≡ c = ap (λ (q : Bytes). get_or q 0 0) same in
    elim (nat_cmp a y) as (λ o. nat_cmp a y ≡ o → ordering_then o (by_name l x) ≡ Less → (p < length (y ∷ x)) × (get_or (y ∷ x) p 0 ≡ get_or (c ∷ b) p 0)) [
      | Less ↦ λ is _.
          let turned : nat_cmp y c ≡ Greater = ap (nat_cmp y) (sym first) ∙ nat_cmp_total.antisymm y a ∙ ap ordering_reverse is in
          let invalid : Greater ≡ Less = ap (λ o. ordering_then o (by_name x b)) (sym turned) ∙ below in cc
      | Equal ↦ λ is rest.
          let same_first : a ≡ y = nat_cmp-IsAntisymmetric a y is in
          let turned : nat_cmp y c ≡ Equal = ap (nat_cmp y) (sym first) ∙ nat_cmp_total.antisymm y a ∙ ap ordering_reverse is in
          let rest_below : by_name x b ≡ Less = ap (λ o. ordering_then o (by_name x b)) (sym turned) ∙ below in
          later p in_l in_b same (sym same_first ∙ first) (λ q at_l at_b alike. between l x b q at_l at_b alike rest rest_below)
      | Greater ↦ λ is invalid. cc
    ] refl above
  where
    later : (p : ℕ) → p < length (a ∷ l) → p < length (c ∷ b) → take (suc p) (a ∷ l) ≡ take (suc p) (c ∷ b) → y ≡ c
        → ((q : ℕ) → q < length l → q < length b → take (suc q) l ≡ take (suc q) b → (q < length x) × (get_or x q 0 ≡ get_or b q 0))
        → (p < length (y ∷ x)) × (get_or (y ∷ x) p 0 ≡ get_or (c ∷ b) p 0)
    later zero in_l in_b same is more = (omega arith, is)
    later (suc q) in_l in_b same is more =
        let rest = more q (omega arith) (omega arith) (ap (λ (q : Bytes). drop 1 q) same) in
        (omega (arith, rest.0), rest.1)

-- a slot whose name lacks the common byte has no name between them
pub unmarked : (last best : Option Bytes) (slot : Bytes) (at byte : ℕ) → IsShared last best at byte → ((at < length (drop 4 slot)) × (get_or (drop 4 slot) at 0 ≡ byte) → ⊥) → best ≡ better_of last (name_in_slot slot) best
unfolding name_in_slot
unmarked last best slot at byte shared other = go (is_before (name_in_slot slot) best) (is_past last (name_in_slot slot)) refl refl
  where
    room : Bytes
    room = drop 4 slot

    count : ℕ
    count = get_or slot 2 0

    go : (before following : Bool) → is_before (name_in_slot slot) best ≡ before → is_past last (name_in_slot slot) ≡ following → best ≡ cond (before && following) (Some (name_in_slot slot)) best
    go false following is_before is_past = refl
    go true false is_before is_past = refl
    go true true is_before is_past =
        let has = shared (name_in_slot slot) is_before is_past in
        let long = length-take count room in
        absurd (other (omega (arith, has.0, long), sym (get_or-take count room at 0 (omega (arith, has.0, long))) ∙ has.1))
