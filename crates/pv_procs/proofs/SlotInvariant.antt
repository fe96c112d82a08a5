-- The invariant of slots holds after a change of one.
use Rattle.std.proofs.Common.{◌≡◌, ℕ, zero, suc, ◌+◌, ◌<◌, Bool, true, cond, ◌&&◌, ◌==◌, nat_lt, List, [], ◌∷◌, length, count_by, is_none, refl, sym, ap, ap₂, subst, ◌∙◌, arith}
use Rattle.std.specs.List.{list_all}
use Rattle.std.proofs.Math.ListN.{get_or, set, length-set}
use Rattle.std.proofs.lemmas.Bool.{and_parts, and_from, lt-ltb}
use Rattle.std.proofs.lemmas.List.Sums.{sum_by-cons}
use Rattle.pv_procs.specs.declared.slot.ProcessSlot.{ProcessSlot}
use Rattle.pv_procs.specs.declared.shared.Shared.{Shared}
use Rattle.pv_procs.specs.Slots.{AreConsistentSlots, IsRoomy, is_above, ascends, is_numbered, uses}
use Rattle.pv_procs.proofs.SlotLookups.{IsAt, above_at}

abbrev pub bit : Bool → ℕ
bit b = cond b 1 0

module _ {X : Type 0} where
  pub list_all-set : (test : X → Bool) (xs : List X) (k : ℕ) (y : X) → list_all test xs ≡ true → test y ≡ true → list_all test (set xs k y) ≡ true
  list_all-set test [] k y all here = refl
  list_all-set test (x ∷ xs) zero y all here = and_from _ _ here (and_parts (test x) (list_all test xs) all).1
  list_all-set test (x ∷ xs) (suc k) y all here =
      let parts = and_parts (test x) (list_all test xs) all in and_from _ _ parts.0 (list_all-set test xs k y parts.1 here)

  pub list_all-at : (test : X → Bool) (xs : List X) (k : ℕ) (x : X) → list_all test xs ≡ true → k < length xs → x ≡ get_or xs k x → test x ≡ true
  list_all-at test [] k x all within is = absurd (omega arith)
  list_all-at test (y ∷ ys) zero x all within is = ap test is ∙ (and_parts (test y) (list_all test ys) all).0
  list_all-at test (y ∷ ys) (suc k) x all within is = list_all-at test ys k x (and_parts (test y) (list_all test ys) all).1 (omega arith) is

  pub count_by-cons : (p : X → Bool) (x : X) (xs : List X) → count_by p (x ∷ xs) ≡ bit (p x) + count_by p xs
  count_by-cons p x xs = sum_by-cons (λ y. bit (p y)) x xs

  pub count-set : (p : X → Bool) (xs : List X) (k : ℕ) (x y : X) → k < length xs → x ≡ get_or xs k x → count_by p (set xs k y) + bit (p x) ≡ count_by p xs + bit (p y)
  count-set p [] k x y within is = absurd (omega arith)
  count-set p (z ∷ zs) zero x y within is =
      let same : bit (p x) ≡ bit (p z) = ap (λ v. bit (p v)) is in
      let after = count_by-cons p y zs in
      let before = count_by-cons p z zs in
      let e : count_by p (y ∷ zs) + bit (p x) ≡ count_by p (z ∷ zs) + bit (p y) = omega (arith, same, after, before) in e
  count-set p (z ∷ zs) (suc k) x y within is =
      let rest = count-set p zs k x y (omega arith) is in
      let after = count_by-cons p z (set zs k y) in
      let before = count_by-cons p z zs in
      let e : count_by p (z ∷ set zs k y) + bit (p x) ≡ count_by p (z ∷ zs) + bit (p y) = omega (arith, rest, after, before) in e

pub ascends-set : (slots : List ProcessSlot) (pid k : ℕ) (slot new : ProcessSlot) → ascends slots ≡ true → IsAt slots pid k slot → new.number ≡ pid → ascends (set slots k new) ≡ true
ascends-set [] pid k slot new asc at same = refl
ascends-set (p ∷ ps) pid zero slot new asc at same =
    ap (λ n. list_all (is_above n) ps && ascends ps) (same ∙ sym at.number ∙ ap (λ (q : ProcessSlot). q.number) at.is) ∙ asc
ascends-set (p ∷ ps) pid (suc k) slot new asc at same =
    let parts = and_parts (list_all (is_above p.number) ps) (ascends ps) asc in
    let more = above_at p.number ps k slot parts.0 (omega (arith, at.within)) at.is in
    and_from _ _ (list_all-set (is_above p.number) ps k new parts.0 (lt-ltb p.number new.number (subst (λ n. p.number < n) (at.number ∙ sym same) more)))
    (ascends-set ps pid k slot new parts.1 (record { within = omega (arith, at.within); is = at.is; number = at.number }) same)

module _ (slots : List ProcessSlot) (programs : List Shared) (last : ℕ) (preserved : AreConsistentSlots slots programs last) (pid k : ℕ) (slot : ProcessSlot) (at : IsAt slots pid k slot) where
  -- another slot there with the same number, program and status
  pub preserved-set : (new : ProcessSlot) → new.number ≡ pid → new.program ≡ slot.program → new.status ≡ slot.status → AreConsistentSlots (set slots k new) programs last
  preserved-set new number program status = record {
    ascending = ascends-set slots pid k slot new preserved.ascending at number;
    numbers = list_all-set (is_numbered last) slots k new preserved.numbers
        (ap (λ n. Rattle.std.specs.Prelude.nat_le 1 n && Rattle.std.specs.Prelude.nat_le n last) (number ∙ sym at.number) ∙ list_all-at (is_numbered last) slots k slot preserved.numbers at.within at.is);
    last = preserved.last;
    table = preserved.table;
    within = list_all-set (λ (p : ProcessSlot). nat_lt p.program 32) slots k new preserved.within
        (ap (λ n. nat_lt n 32) program ∙ list_all-at (λ (p : ProcessSlot). nat_lt p.program 32) slots k slot preserved.within at.within at.is);
    users = λ j.
        let count = count-set (uses j) slots k slot new at.within at.is in
        let same : bit (uses j new) ≡ bit (uses j slot) = ap₂ (λ s n. bit (is_none s && (n == j))) status program in
        preserved.users j ∙ (let e : count_by (uses j) slots ≡ count_by (uses j) (set slots k new) = omega (arith, count, same) in e);
  }

pub roomy-set : (slots spare : List ProcessSlot) (k : ℕ) (new : ProcessSlot) (capacity spare_capacity : ℕ) → IsRoomy (length slots) (length spare) capacity spare_capacity
    → IsRoomy (length (set slots k new)) (length spare) capacity spare_capacity
roomy-set slots spare k new capacity spare_capacity is =
    record { full = ap (λ n. n + length spare) (length-set slots k new) ∙ is.full; room = is.room; spare_room = is.spare_room }
