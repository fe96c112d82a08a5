-- The end of a process, on the slots.
use Rattle.std.proofs.Common.{◌≡◌, ◌≢◌, ℕ, zero, suc, ◌+◌, ◌<◌, Bool, true, false, cond, not, ◌&&◌, ◌==◌, nat_lt, List, [], ◌∷◌, map, filter, length, count_by, Option, None, Some, is_none, is_some, refl, sym, ap, ap₂, subst, ◌∙◌, ⊎_elim, arith}
use Rattle.std.specs.FinMap.Entries.{find, put}
use Rattle.std.specs.List.{list_all}
use Rattle.std.specs.Ordering.{nat_cmp}
use Rattle.std.proofs.Math.ListN.{get_or, set}
use Rattle.std.proofs.lemmas.Bool.{and_parts, and_from, cases_eq, eq-eqb, ne_eqb, ltb-true}
use Rattle.pv_model.specs.Machine.{adopt, is_unclaimed, adopter, end_process, Numbered, OpenFile, Program, Process, ProcessRecord, ended_record, State, live_process, Tree}
use Rattle.pv_procs.specs.declared.slot.ProcessSlot.{ProcessSlot}
use Rattle.pv_procs.specs.declared.shared.Shared.{Shared}
use Rattle.pv_procs.specs.Slots.{AreConsistentSlots, process_of, record_by_slot, slot_record, slot_records, is_above, ascends, is_numbered, uses, users_at, shared_program_at, process_table_of, adopted, is_claimed}
use Rattle.pv_procs.specs.ProcessTable.{ProcessTable, state_with, process_in}
use Rattle.pv_procs.proofs.SlotLookups.{IsAt, put-at}
use Rattle.pv_procs.proofs.SlotInvariant.{bit, count_by-cons, list_all-set, list_all-at, count-set, ascends-set}

-- ---- entries with other user counts

pub same-entries : (programs other : List Shared) → ((k : ℕ) → shared_program_at other k ≡ shared_program_at programs k) → (slots : List ProcessSlot) → slot_records other slots ≡ slot_records programs slots
same-entries programs other same [] = refl
same-entries programs other same (p ∷ ps) =
    ap₂ (λ r (es : List (ℕ × ProcessRecord)). (p.number, r) ∷ es) (ap (λ program. record_by_slot p program p.status) (same p.program)) (same-entries programs other same ps)

-- ---- orphans

abbrev Same : ℕ × ProcessRecord → ℕ × ProcessRecord → Type 0
Same a b = a ≡ b

adopted-entry : (old new : ℕ) (p : ProcessSlot) (program : Program) (status : Option ℕ)
    → Same (cond (p.parent == old) (p.number, record_by_slot (record p { parent = new }) program status) (p.number, record_by_slot p program status)) (adopt old new (p.number, record_by_slot p program status))
adopted-entry old new p program None = refl
adopted-entry old new p program (Some n) = refl

abbrev keyed : List Shared → ProcessSlot → ℕ × ProcessRecord
keyed programs p = (p.number, slot_record programs p)

keyed-adopted : (programs : List Shared) (old new : ℕ) (p : ProcessSlot) → Same (keyed programs (adopted old new p))
    (cond (p.parent == old) (p.number, record_by_slot (record p { parent = new }) (shared_program_at programs p.program) p.status) (p.number, slot_record programs p))
keyed-adopted programs old new p =
    elim (p.parent == old) as (λ b. Same (keyed programs (cond b (record p { parent = new }) p))
    (cond b (p.number, record_by_slot (record p { parent = new }) (shared_program_at programs p.program) p.status) (p.number, slot_record programs p))) [ true ↦ refl | false ↦ refl ]

pub entries-adopted : (programs : List Shared) (old new : ℕ) (slots : List ProcessSlot) → slot_records programs (map (adopted old new) slots) ≡ map (adopt old new) (slot_records programs slots)
entries-adopted programs old new [] = refl
entries-adopted programs old new (p ∷ ps) =
    ap₂ (λ e (es : List (ℕ × ProcessRecord)). e ∷ es) (keyed-adopted programs old new p ∙ adopted-entry old new p (shared_program_at programs p.program) p.status) (entries-adopted programs old new ps)

claimed-entry : (p : ProcessSlot) (program : Program) (status : Option ℕ) → not (is_some status && (p.parent == 0)) ≡ not (is_unclaimed (record_by_slot p program status))
claimed-entry p program None = refl
claimed-entry p program (Some n) = refl

pub entries-claimed : (programs : List Shared) (slots : List ProcessSlot) → slot_records programs (filter is_claimed slots) ≡ filter (λ r. not (is_unclaimed r.1)) (slot_records programs slots)
entries-claimed programs [] = refl
entries-claimed programs (p ∷ ps) =
    elim (is_claimed p) as (λ b. is_claimed p ≡ b → slot_records programs (cond b (p ∷ filter is_claimed ps) (filter is_claimed ps)) ≡ filter (λ r. not (is_unclaimed r.1)) (slot_records programs (p ∷ ps))) [
      | true ↦ λ is. ap (λ es. (p.number, slot_record programs p) ∷ es) (entries-claimed programs ps)
          ∙ ap (λ b. cond b ((p.number, slot_record programs p) ∷ filter (λ r. not (is_unclaimed r.1)) (slot_records programs ps)) (filter (λ r. not (is_unclaimed r.1)) (slot_records programs ps)))
          (sym is ∙ claimed-entry p (shared_program_at programs p.program) p.status)
      | false ↦ λ is. entries-claimed programs ps
          ∙ ap (λ b. cond b ((p.number, slot_record programs p) ∷ filter (λ r. not (is_unclaimed r.1)) (slot_records programs ps)) (filter (λ r. not (is_unclaimed r.1)) (slot_records programs ps)))
          (sym is ∙ claimed-entry p (shared_program_at programs p.program) p.status)
    ] refl

-- ---- slots with other parents satisfy the same properties

module _ {X : Type 0} (f : X → X) where
  list_all-map : (test : X → Bool) → ((x : X) → test (f x) ≡ test x) → (xs : List X) → list_all test (map f xs) ≡ list_all test xs
  list_all-map test same [] = refl
  list_all-map test same (x ∷ xs) = ap₂ (λ a b. a && b) (same x) (list_all-map test same xs)

  count_by-map : (test : X → Bool) → ((x : X) → test (f x) ≡ test x) → (xs : List X) → count_by test (map f xs) ≡ count_by test xs
  count_by-map test same [] = refl
  count_by-map test same (x ∷ xs) = count_by-cons test (f x) (map f xs) ∙ ap₂ (λ a n. bit a + n) (same x) (count_by-map test same xs) ∙ sym (count_by-cons test x xs)

module _ {X : Type 0} (keeps : X → Bool) where
  list_all-preserved : (test : X → Bool) (xs : List X) → list_all test xs ≡ true → list_all test (filter keeps xs) ≡ true
  list_all-preserved test [] all = refl
  list_all-preserved test (x ∷ xs) all =
      let parts = and_parts (test x) (list_all test xs) all in
      elim (keeps x) as (λ b. list_all test (cond b (x ∷ filter keeps xs) (filter keeps xs)) ≡ true) [ true ↦ and_from _ _ parts.0 (list_all-preserved test xs parts.1) | false ↦ list_all-preserved test xs parts.1 ]

  count_by-preserved : (test : X → Bool) → ((x : X) → keeps x ≡ false → test x ≡ false) → (xs : List X) → count_by test (filter keeps xs) ≡ count_by test xs
  count_by-preserved test unless [] = refl
  count_by-preserved test unless (x ∷ xs) =
      elim (keeps x) as (λ b. keeps x ≡ b → count_by test (cond b (x ∷ filter keeps xs) (filter keeps xs)) ≡ bit (test x) + count_by test xs) [
        | true ↦ λ is. count_by-cons test x (filter keeps xs) ∙ ap (λ n. bit (test x) + n) (count_by-preserved test unless xs)
        | false ↦ λ is. count_by-preserved test unless xs ∙ (let zero : bit (test x) ≡ 0 = ap bit (unless x is) in let e : count_by test xs ≡ bit (test x) + count_by test xs = omega (arith, zero) in e)
      ] refl ∙ sym (count_by-cons test x xs)

ascends-adopted : (old new : ℕ) (slots : List ProcessSlot) → ascends (map (adopted old new) slots) ≡ ascends slots
ascends-adopted old new [] = refl
ascends-adopted old new (p ∷ ps) =
    ap₂ (λ a b. a && b) (ap (λ n. list_all (is_above n) (map (adopted old new) ps)) (number-adopted p) ∙ list_all-map (adopted old new) (is_above p.number) above ps) (ascends-adopted old new ps)
  where
    number-adopted : (q : ProcessSlot) → (adopted old new q).number ≡ q.number
    number-adopted q = elim (q.parent == old) as (λ b. (cond b (record q { parent = new }) q).number ≡ q.number) [ true ↦ refl | false ↦ refl ]

    above : (q : ProcessSlot) → is_above p.number (adopted old new q) ≡ is_above p.number q
    above q = ap (λ n. nat_lt p.number n) (number-adopted q)

ascends-preserved : (slots : List ProcessSlot) → ascends slots ≡ true → ascends (filter is_claimed slots) ≡ true
ascends-preserved [] asc = refl
ascends-preserved (p ∷ ps) asc =
    let parts = and_parts (list_all (is_above p.number) ps) (ascends ps) asc in
    elim (is_claimed p) as (λ b. ascends (cond b (p ∷ filter is_claimed ps) (filter is_claimed ps)) ≡ true) [
      | true ↦ and_from _ _ (list_all-preserved is_claimed (is_above p.number) ps parts.0) (ascends-preserved ps parts.1)
      | false ↦ ascends-preserved ps parts.1
    ]

by-parent : (test : ProcessSlot → Bool) (old new : ℕ) → ((q : ProcessSlot) → test (record q { parent = new }) ≡ test q) → (q : ProcessSlot) → test (adopted old new q) ≡ test q
by-parent test old new same q = elim (q.parent == old) as (λ b. test (cond b (record q { parent = new }) q) ≡ test q) [ true ↦ same q | false ↦ refl ]

-- a process that no process can wait for has ended
unclaimed-unused : (j : ℕ) (q : ProcessSlot) → is_claimed q ≡ false → uses j q ≡ false
unclaimed-unused j q is = by q.status refl
  where
    by : (s : Option ℕ) → q.status ≡ s → uses j q ≡ false
    by None none = let preserved = ap (λ s. not (is_some s && (q.parent == 0))) none in cc
    by (Some n) some = ap (λ s. is_none s && (q.program == j)) some

pub preserved-claimed : (slots : List ProcessSlot) (programs : List Shared) (last old new : ℕ) → AreConsistentSlots slots programs last → AreConsistentSlots (filter is_claimed (map (adopted old new) slots)) programs last
preserved-claimed slots programs last old new preserved = record {
  ascending = ascends-preserved (map (adopted old new) slots) (ascends-adopted old new slots ∙ preserved.ascending);
  numbers = list_all-preserved is_claimed (is_numbered last) (map (adopted old new) slots)
      (list_all-map (adopted old new) (is_numbered last) (by-parent (is_numbered last) old new (λ q. refl)) slots ∙ preserved.numbers);
  last = preserved.last;
  table = preserved.table;
  within = list_all-preserved is_claimed (λ (p : ProcessSlot). nat_lt p.program 32) (map (adopted old new) slots)
      (list_all-map (adopted old new) (λ (p : ProcessSlot). nat_lt p.program 32) (by-parent (λ (p : ProcessSlot). nat_lt p.program 32) old new (λ q. refl)) slots ∙ preserved.within);
  users = λ j. preserved.users j ∙ sym (count_by-preserved is_claimed (uses j) (unclaimed-unused j) (map (adopted old new) slots)
      ∙ count_by-map (adopted old new) (uses j) (by-parent (uses j) old new (λ q. refl)) slots);
}

-- ---- the slot of a process that ends

pub counted : {X : Type 0} (p : X → Bool) (xs : List X) (k : ℕ) (x : X) → k < length xs → x ≡ get_or xs k x → p x ≡ true → 0 < count_by p xs
counted p [] k x within is here = absurd (omega arith)
counted p (y ∷ ys) zero x within is here =
    let one : bit (p y) ≡ 1 = ap bit (ap p (sym is) ∙ here) in let all = count_by-cons p y ys in let e : 0 < count_by p (y ∷ ys) = omega (arith, one, all) in e
counted p (y ∷ ys) (suc k) x within is here =
    let rest = counted p ys k x (omega arith) is here in let all = count_by-cons p y ys in let e : 0 < count_by p (y ∷ ys) = omega (arith, rest, all) in e

module _ (slots : List ProcessSlot) (programs : List Shared) (last : ℕ) (preserved : AreConsistentSlots slots programs last) (pid k : ℕ) (slot : ProcessSlot) (at : IsAt slots pid k slot) (lives : slot.status ≡ None) where
  pub used-here : uses slot.program slot ≡ true
  used-here = ap (λ s. is_none s && (slot.program == slot.program)) lives ∙ eq-eqb slot.program slot.program refl

  pub has-users : 0 < users_at programs slot.program
  has-users = subst (λ n. 0 < n) (sym (preserved.users slot.program)) (counted (uses slot.program) slots k slot at.within at.is used-here)

  pub program-within : slot.program < 32
  program-within = ltb-true slot.program 32 (list_all-at (λ (p : ProcessSlot). nat_lt p.program 32) slots k slot preserved.within at.within at.is)

  module _ (other : List Shared) (long : length other ≡ length programs) (fewer : users_at other slot.program + 1 ≡ users_at programs slot.program)
      (rest : (j : ℕ) → j ≢ slot.program → users_at other j ≡ users_at programs j) (status : ℕ) where
    abbrev gone : ProcessSlot
    gone = record slot { status = Some status }

    pub users-gone : (j : ℕ) → users_at other j ≡ count_by (uses j) (set slots k gone)
    users-gone j =
        let count = count-set (uses j) slots k slot gone at.within at.is in
        ⊎_elim
        (λ (same : j ≡ slot.program).
        let here : bit (uses j slot) ≡ 1 = ap bit (ap (λ i. uses i slot) same ∙ used-here) in
        let few : users_at other j + 1 ≡ users_at programs j = ap (λ i. users_at other i + 1) same ∙ fewer ∙ ap (users_at programs) (sym same) in
        let was = preserved.users j in
        let e : users_at other j ≡ count_by (uses j) (set slots k gone) = omega (arith, count, here, few, was) in e)
        (λ (different : j ≢ slot.program).
        let none : bit (uses j slot) ≡ 0 = ap bit (ap (λ s. is_none s && (slot.program == j)) lives ∙ ne_eqb slot.program j (λ same. different (sym same))) in
        let was = preserved.users j in
        let stays = rest j different in
        let e : users_at other j ≡ count_by (uses j) (set slots k gone) = omega (arith, count, none, stays, was) in e)
        (cases_eq j slot.program)

    pub preserved-gone : AreConsistentSlots (set slots k gone) other last
    preserved-gone = record {
      ascending = ascends-set slots pid k slot gone preserved.ascending at at.number;
      numbers = list_all-set (is_numbered last) slots k gone preserved.numbers (list_all-at (is_numbered last) slots k slot preserved.numbers at.within at.is);
      last = preserved.last;
      table = long ∙ preserved.table;
      within = list_all-set (λ (p : ProcessSlot). nat_lt p.program 32) slots k gone preserved.within (list_all-at (λ (p : ProcessSlot). nat_lt p.program 32) slots k slot preserved.within at.within at.is);
      users = users-gone;
    }

    module _ (same : (j : ℕ) → shared_program_at other j ≡ shared_program_at programs j) (heir : ℕ) (t : Tree) (files : Numbered OpenFile) (me : Process) (parent : me.parent ≡ slot.parent) where
      put-gone : slot_records other (set slots k gone) ≡ put nat_cmp pid (ended_record me.parent status) (slot_records programs slots)
      put-gone =
          put-at other slots pid k slot gone preserved.ascending at at.number
          ∙ ap₂ (λ r es. put nat_cmp pid r es) (ap (λ n. ended_record n status) (sym parent)) (same-entries programs other same slots)

      abbrev put_state : State
      put_state = record { tree = t; files = files; processes = put nat_cmp pid (ended_record me.parent status) (slot_records programs slots); last_process = last }

      pub end-is : heir ≡ cond (is_some (live_process (find nat_cmp 1 (slot_records other (set slots k gone))))) 1 0
          → state_with t files (process_table_of (filter is_claimed (map (adopted pid heir) (set slots k gone))) other last) ≡ end_process (state_with t files (process_table_of slots programs last)) pid me status
      unfolding end_process
      end-is is =
          let heir_is : heir ≡ adopter put_state = is ∙ ap (λ es. cond (is_some (live_process (find nat_cmp 1 es))) 1 0) put-gone in
          let entries : slot_records other (filter is_claimed (map (adopted pid heir) (set slots k gone))) ≡ filter (λ r. not (is_unclaimed r.1)) (map (adopt pid (adopter put_state)) put_state.processes) =
          entries-claimed other (map (adopted pid heir) (set slots k gone)) ∙ ap (filter (λ r. not (is_unclaimed r.1)))
          (entries-adopted other pid heir (set slots k gone) ∙ ap₂ (λ n es. map (adopt pid n) es) heir_is put-gone) in
          ap (λ es. record { tree = t; files = files; processes = es; last_process = last }) entries

-- two descriptions of one process
pub parent-is : (ps : ProcessTable) (pid : ℕ) (program : Program) (slot : ProcessSlot) (me : Process) → process_in ps pid ≡ Some (process_of program slot) → process_in ps pid ≡ Some me → me.parent ≡ slot.parent
parent-is ps pid program slot me one other = let both : Some me ≡ Some (process_of program slot) = sym other ∙ one in let same : me ≡ process_of program slot = cc both in ap (λ (p : Process). p.parent) same
