-- A child, on the slots; and the properties of slots as contracts see them.
use Rattle.std.proofs.Common.{◌≡◌, ◌≢◌, ℕ, suc, ◌+◌, ◌<◌, ◌≤◌, Bool, true, false, cond, ◌&&◌, ◌||◌, ◌==◌, nat_lt, nat_le, List, [], ◌∷◌, ◌++◌, length, count_by, Some, refl, sym, ap, ap₂, ◌∙◌, ⊎_elim, arith}
use Rattle.std.specs.FinMap.Entries.{by_order, put, is_sorted, below_all}
use Rattle.std.specs.List.{list_all}
use Rattle.std.specs.Ordering.{nat_cmp, is_lt}
use Rattle.std.specs.declared.cmp.Ordering.TheVariants.{Less, Equal, Greater}
use Rattle.std.proofs.Math.ListN.{length-map}
use Rattle.std.proofs.lemmas.Bool.{and_parts, and_from, or_left, or_right, cases_eq, eq-eqb, ne_eqb, leb-true, lt-ltb, le-ltb, le-leb, lt-leb, ltb-true}
use Rattle.std.proofs.lemmas.List.Folds.{list_all-append}
use Rattle.std.proofs.lemmas.List.Sums.{count_by-le-length}
use Rattle.pv_model.specs.declared.errno.Errno.TheVariants.{EAGAIN}
use Rattle.pv_model.specs.Machine.{◌>>◌, refuse, refuse_if, fork, child, answers, Numbered, OpenFile, Process, ProcessRecord, live, State, with_process, Tree}
use Rattle.pv_procs.specs.declared.slot.ProcessSlot.{ProcessSlot}
use Rattle.pv_procs.specs.declared.shared.Shared.{Shared}
use Rattle.pv_procs.specs.Children.{child_slot}
use Rattle.pv_procs.specs.Slots.{AreConsistentSlots, IsRoomy, process_of, slot_record, slot_records, is_above, ascends, is_numbered, uses, users_at, shared_program_at, process_table_of}
use Rattle.pv_procs.specs.ProcessTable.{ProcessTable, IsProcessTable, state_with, process_in}
use Rattle.pv_procs.proofs.SlotLookups.{IsAt, greater}
use Rattle.pv_procs.proofs.SlotInvariant.{bit, count_by-cons, list_all-at}
use Rattle.pv_procs.proofs.EndedSlots.{same-entries}

-- ---- the view of contracts

less-is : (x y : ℕ) → is_lt (nat_cmp x y) ≡ nat_lt x y
less-is x y =
    elim (nat_lt x y) as (λ b. is_lt (cond b Less (cond (x == y) Equal Greater)) ≡ b) [
      | true ↦ refl
      | false ↦ elim (x == y) as (λ b. is_lt (cond b Equal Greater) ≡ false) [ true ↦ refl | false ↦ refl ]
    ]

pub number-less : (a b : ℕ) → is_lt (nat_cmp a b) ≡ true → a < b
number-less a b is = ltb-true a b (sym (less-is a b) ∙ is)

below-is : (programs : List Shared) (n : ℕ) (slots : List ProcessSlot) → below_all nat_cmp n (slot_records programs slots) ≡ list_all (is_above n) slots
below-is programs n [] = refl
below-is programs n (p ∷ ps) = ap₂ (λ a b. a && b) (less-is n p.number) (below-is programs n ps)

sorted-is : (programs : List Shared) (slots : List ProcessSlot) → is_sorted nat_cmp (slot_records programs slots) ≡ ascends slots
sorted-is programs [] = refl
sorted-is programs (p ∷ ps) = ap₂ (λ a b. a && b) (below-is programs p.number ps) (sorted-is programs ps)

numbers-are : (programs : List Shared) (last : ℕ) (slots : List ProcessSlot) → list_all (λ (r : ℕ × ProcessRecord). nat_le 1 r.0 && nat_le r.0 last) (slot_records programs slots) ≡ list_all (is_numbered last) slots
numbers-are programs last [] = refl
numbers-are programs last (p ∷ ps) = ap (λ b. is_numbered last p && b) (numbers-are programs last ps)

pub length-entries : (programs : List Shared) (slots : List ProcessSlot) → length (slot_records programs slots) ≡ length slots
length-entries programs slots = length-map slots (λ p. (p.number, slot_record programs p))

pub reported : (slots spare : List ProcessSlot) (programs : List Shared) (last capacity spare_capacity : ℕ) → AreConsistentSlots slots programs last
    → IsRoomy (length slots) (length spare) capacity spare_capacity → IsProcessTable (process_table_of slots programs last)
reported slots spare programs last capacity spare_capacity preserved roomy = record {
  ascending = sorted-is programs slots ∙ preserved.ascending;
  numbers = numbers-are programs last slots ∙ preserved.numbers;
  count = omega (arith, length-entries programs slots, roomy.full);
  last = preserved.last;
}

-- ---- a greater number at the end

at-most : (last : ℕ) (p : ProcessSlot) → is_numbered last p ≡ true → p.number ≤ last
at-most last p is = leb-true p.number last (and_parts (nat_le 1 p.number) (nat_le p.number last) is).1

ascends-append : (slots : List ProcessSlot) (new : ProcessSlot) (last : ℕ) → ascends slots ≡ true → list_all (is_numbered last) slots ≡ true → last < new.number → ascends (slots ++ new ∷ []) ≡ true
ascends-append [] new last asc numbers more = refl
ascends-append (p ∷ ps) new last asc numbers more =
    let parts = and_parts (list_all (is_above p.number) ps) (ascends ps) asc in
    let low = and_parts (is_numbered last p) (list_all (is_numbered last) ps) numbers in
    let few = at-most last p low.0 in
    and_from _ _
    (list_all-append (is_above p.number) ps (new ∷ []) ∙ and_from _ _ parts.0 (and_from _ _ (lt-ltb p.number new.number (omega arith)) refl))
    (ascends-append ps new last parts.1 low.1 more)

numbered-more : (slots : List ProcessSlot) (last : ℕ) → list_all (is_numbered last) slots ≡ true → list_all (is_numbered (suc last)) slots ≡ true
numbered-more [] last numbers = refl
numbered-more (p ∷ ps) last numbers =
    let low = and_parts (is_numbered last p) (list_all (is_numbered last) ps) numbers in
    let few = at-most last p low.0 in
    and_from _ _ (and_from _ _ (and_parts (nat_le 1 p.number) (nat_le p.number last) low.0).0 (le-leb p.number (suc last) (omega arith))) (numbered-more ps last low.1)

count-append : {X : Type 0} (p : X → Bool) (xs : List X) (y : X) → count_by p (xs ++ y ∷ []) ≡ count_by p xs + bit (p y)
count-append p [] y = let one = count_by-cons p y [] in let e : count_by p (y ∷ []) ≡ count_by p [] + bit (p y) = omega (arith, one) in e
count-append p (x ∷ xs) y =
    let rest = count-append p xs y in
    let after = count_by-cons p x (xs ++ y ∷ []) in
    let before = count_by-cons p x xs in
    let e : count_by p (x ∷ xs ++ y ∷ []) ≡ count_by p (x ∷ xs) + bit (p y) = omega (arith, rest, after, before) in e

put-append : (programs : List Shared) (slots : List ProcessSlot) (new : ProcessSlot) (last : ℕ) → list_all (is_numbered last) slots ≡ true → last < new.number
    → slot_records programs (slots ++ new ∷ []) ≡ put nat_cmp new.number (slot_record programs new) (slot_records programs slots)
put-append programs [] new last numbers more = refl
put-append programs (p ∷ ps) new last numbers more =
    let low = and_parts (is_numbered last p) (list_all (is_numbered last) ps) numbers in
    let few = at-most last p low.0 in
    ap (λ es. (p.number, slot_record programs p) ∷ es) (put-append programs ps new last low.1 more)
    ∙ sym (ap (λ o. by_order o ((new.number, slot_record programs new) ∷ slot_records programs (p ∷ ps)) ((p.number, slot_record programs new) ∷ slot_records programs ps)
    ((p.number, slot_record programs p) ∷ put nat_cmp new.number (slot_record programs new) (slot_records programs ps))) (greater new.number p.number (omega arith)))

-- ---- fork

module _ (slots : List ProcessSlot) (programs : List Shared) (last : ℕ) (preserved : AreConsistentSlots slots programs last) where
  pub users-few : (k : ℕ) → length slots < 32 → users_at programs k < 32
  users-few k few = omega (arith, preserved.users k, count_by-le-length (uses k) slots)

  module _ (pid k : ℕ) (slot : ProcessSlot) (at : IsAt slots pid k slot) (other : List Shared) (long : length other ≡ length programs)
      (more : users_at other slot.program ≡ users_at programs slot.program + 1) (rest : (j : ℕ) → j ≢ slot.program → users_at other j ≡ users_at programs j) where
    abbrev new : ProcessSlot
    new = child_slot (suc last) slot

    users-new : (j : ℕ) → users_at other j ≡ count_by (uses j) (slots ++ new ∷ [])
    users-new j =
        let count = count-append (uses j) slots new in
        let was = preserved.users j in
        ⊎_elim
        (λ (same : j ≡ slot.program).
        let here : bit (uses j new) ≡ 1 = ap bit (eq-eqb slot.program j (sym same)) in
        let one : users_at other j ≡ users_at programs j + 1 = ap (users_at other) same ∙ more ∙ ap (λ i. users_at programs i + 1) (sym same) in
        let e : users_at other j ≡ count_by (uses j) (slots ++ new ∷ []) = omega (arith, count, here, one, was) in e)
        (λ (different : j ≢ slot.program).
        let none : bit (uses j new) ≡ 0 = ap bit (ne_eqb slot.program j (λ same. different (sym same))) in
        let stays = rest j different in
        let e : users_at other j ≡ count_by (uses j) (slots ++ new ∷ []) = omega (arith, count, none, stays, was) in e)
        (cases_eq j slot.program)

    pub preserved-new : last < 99999 → AreConsistentSlots (slots ++ new ∷ []) other (suc last)
    preserved-new few = record {
      ascending = ascends-append slots new last preserved.ascending preserved.numbers (omega arith);
      numbers = list_all-append (is_numbered (suc last)) slots (new ∷ [])
          ∙ and_from _ _ (numbered-more slots last preserved.numbers) (and_from _ _ (and_from _ _ (le-leb 1 (suc last) (omega arith)) (le-leb (suc last) (suc last) (omega arith))) refl);
      last = omega arith;
      table = long ∙ preserved.table;
      within = list_all-append (λ (p : ProcessSlot). nat_lt p.program 32) slots (new ∷ [])
          ∙ and_from _ _ preserved.within (and_from _ _ (list_all-at (λ (p : ProcessSlot). nat_lt p.program 32) slots k slot preserved.within at.within at.is) refl);
      users = users-new;
    }

    module _ (same : (j : ℕ) → shared_program_at other j ≡ shared_program_at programs j) (t : Tree) (files : Numbered OpenFile) (me : Process) (mine : me ≡ process_of (shared_program_at programs slot.program) slot) where
      abbrev before : State
      before = state_with t files (process_table_of slots programs last)

      child-is : slot_record other new ≡ live (child before pid me)
      child-is =
          ap (λ program. live (process_of program new)) (same slot.program)
          ∙ ap (λ n. live (record (process_of (shared_program_at programs slot.program) new) { parent = n })) at.number
          ∙ ap (λ (p : Process). live (child before pid p)) (sym mine)

      abbrev forked : State
      forked = record (with_process before (suc last) (child before pid me)) { last_process = suc last }

      forked-is : state_with t files (process_table_of (slots ++ new ∷ []) other (suc last)) ≡ forked
      forked-is =
          ap (λ es. record { tree = t; files = files; processes = es; last_process = suc last })
          (put-append other slots new last preserved.numbers (omega arith) ∙ ap₂ (λ r es. put nat_cmp (suc last) r es) child-is (same-entries programs other same slots))

      pub fork-is : length slots < 32 → last < 99999 → fork before pid me ≡ answers (state_with t files (process_table_of (slots ++ new ∷ []) other (suc last))) (suc last)
      fork-is few low =
          let count : nat_le 32 (length before.processes) ≡ false = lt-leb 32 (length before.processes) (omega (arith, length-entries programs slots)) in
          let number : nat_lt 99999 (suc last) ≡ false = le-ltb 99999 (suc last) (omega arith) in
          ap₂ (λ a b. refuse_if EAGAIN (a || b) >> answers forked (suc last)) count number ∙ ap (λ s. answers s (suc last)) (sym forked-is)

-- the two reasons for failure
pub fork-full : (s : State) (pid : ℕ) (me : Process) → length s.processes ≡ 32 → fork s pid me ≡ refuse EAGAIN
fork-full s pid me full =
    ap (λ b. refuse_if EAGAIN b >> answers (record (with_process s (suc s.last_process) (child s pid me)) { last_process = suc s.last_process }) (suc s.last_process))
    (or_left _ _ (le-leb 32 (length s.processes) (omega arith)))

pub fork-last : (s : State) (pid : ℕ) (me : Process) → s.last_process ≡ 99999 → fork s pid me ≡ refuse EAGAIN
fork-last s pid me last =
    ap (λ b. refuse_if EAGAIN b >> answers (record (with_process s (suc s.last_process) (child s pid me)) { last_process = suc s.last_process }) (suc s.last_process))
    (or_right (nat_le 32 (length s.processes)) _ (lt-ltb 99999 (suc s.last_process) (omega arith)))

pub mine-is : (ps : ProcessTable) (pid : ℕ) (p me : Process) → process_in ps pid ≡ Some p → process_in ps pid ≡ Some me → me ≡ p
mine-is ps pid p me one other = let both : Some me ≡ Some p = sym other ∙ one in cc both
