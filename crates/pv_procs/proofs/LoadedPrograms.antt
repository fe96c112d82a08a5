-- Another program for a process, on the slots.
use Rattle.std.proofs.Common.{◌≡◌, ◌≢◌, ℕ, zero, suc, ◌+◌, ◌-◌, ◌<◌, ◌≤◌, Bool, true, false, cond, not, ◌&&◌, ◌||◌, ◌==◌, nat_lt, nat_le, List, [], ◌∷◌, map, length, count_by, position, Option, None, Some, is_none, is_some, slice_get, replicate, refl, sym, ap, ap₂, subst, ◌∙◌, ⊎_elim, add-one, arith}
use Rattle.std.specs.FinMap.Entries.{by_order, put}
use Rattle.std.specs.List.{list_all, position_or_len, prefix_len}
use Rattle.std.specs.Ordering.{nat_cmp}
use Rattle.std.proofs.Math.ListN.{get_or, set, length-set}
use Rattle.std.proofs.lemmas.Bool.{and_parts, cases_eq, eq-eqb, eqb-true, eqb-false, ne_eqb, lt-ltb}
use Rattle.std.proofs.lemmas.Bool.Decides.{nat_tests}
use Rattle.std.proofs.lemmas.List.Quantifiers.{position-Some}
use Rattle.std.proofs.lemmas.List.Sums.{count_by-le-length, prefix_len-le-length}
use Rattle.pv_model.specs.Machine.{with_program, Program, ProcessRecord, live, State}
use Rattle.pv_files.proofs.ViewedMaps.{past}
use Rattle.pv_procs.specs.declared.slot.ProcessSlot.{ProcessSlot}
use Rattle.pv_procs.specs.declared.shared.Shared.{Shared}
use Rattle.pv_procs.specs.Parts.{after_exec, first_record}
use Rattle.pv_procs.specs.Slots.{AreConsistentSlots, process_of, record_by_slot, slot_record, slot_records, is_above, ascends, is_numbered, uses, users_at, user_count, shared_program_at, shared_program, process_table_of}
use Rattle.pv_procs.specs.ProcessTable.{ProcessTable, process_in, updated_table, updated_live}
use Rattle.pv_procs.proofs.SlotLookups.{IsAt, past-more, following, first-number, greater, equal}
use Rattle.pv_procs.proofs.SlotInvariant.{bit, count_by-cons, count-set, list_all-set, list_all-at, ascends-set}
use Rattle.pv_procs.proofs.EndedSlots.{users-gone}

-- ---- the result of a search in a list after a change

pub slice_get-set_same : {X : Type 0} (xs : List X) (k : ℕ) (y : X) → k < length xs → slice_get (set xs k y) k ≡ Some y
slice_get-set_same [] k y within = absurd (omega arith)
slice_get-set_same (x ∷ xs) zero y within = refl
slice_get-set_same (x ∷ xs) (suc k) y within = slice_get-set_same xs k y (omega arith)

pub slice_get-set_other : {X : Type 0} (xs : List X) (k j : ℕ) (y : X) → j ≢ k → slice_get (set xs k y) j ≡ slice_get xs j
slice_get-set_other [] k j y other = refl
slice_get-set_other (x ∷ xs) zero zero y other = absurd (other refl)
slice_get-set_other (x ∷ xs) zero (suc j) y other = refl
slice_get-set_other (x ∷ xs) (suc k) zero y other = refl
slice_get-set_other (x ∷ xs) (suc k) (suc j) y other = slice_get-set_other xs k j y (λ same. other (ap suc same))

-- ---- a free slot for a program

abbrev pub has_user : Shared → Bool
has_user s = s.users == 0

all-used : (programs : List Shared) (j : ℕ) → position_or_len has_user programs ≡ length programs → j < length programs → 0 < users_at programs j
all-used [] j is within = absurd (omega arith)
all-used (s ∷ ss) j is within =
    elim (s.users == 0) as (λ b. (s.users == 0) ≡ b → cond (not b) (1 + prefix_len (λ q. not (has_user q)) ss) 0 ≡ suc (length ss) → 0 < users_at (s ∷ ss) j) [
      | true ↦ λ here none. absurd (omega (arith, none))
      | false ↦ λ some one. by j within some (λ i less. all-used ss i (omega (arith, one)) less)
    ] refl is
  where
    by : (i : ℕ) → i < suc (length ss) → (s.users == 0) ≡ false → ((h : ℕ) → h < length ss → 0 < users_at ss h) → 0 < users_at (s ∷ ss) i
    by zero less some rest = let other = eqb-false s.users 0 some in let e : 0 < s.users = Rattle.std.proofs.Common.⊎_elim (λ same. absurd (other same)) (λ (no : s.users ≢ 0). omega (arith, no)) (cases_eq s.users 0) in e
    by (suc h) less some rest = rest h (omega arith)

-- a slot without users, if a search finds one
pub free-users : (programs : List Shared) (free : ℕ) → position has_user programs ≡ Some free → (free < length programs) × (users_at programs free ≡ 0)
free-users programs free found =
    let at = position-Some has_user programs free (record { program = []; users = 0 }) found in
    (at.0, read programs free at.0 ∙ eqb-true (get_or programs free (record { program = []; users = 0 })).users 0 at.1)
  where
    read : (ss : List Shared) (k : ℕ) → k < length ss → users_at ss k ≡ (get_or ss k (record { program = []; users = 0 })).users
    read [] k within = absurd (omega arith)
    read (s ∷ ss) zero within = refl
    read (s ∷ ss) (suc k) within = read ss k (omega arith)

-- whether a slot has a live process whose program is below n
abbrev below : ℕ → ProcessSlot → Bool
below n p = is_none p.status && nat_lt p.program n

tests-more : (n m : ℕ) → bit (nat_lt m (suc n)) ≡ bit (nat_lt m n) + bit (m == n)
tests-more n m = grind (arith, nat_tests)

status-more : (n m : ℕ) (b : Bool) → bit (b && nat_lt m (suc n)) ≡ bit (b && nat_lt m n) + bit (b && (m == n))
status-more n m false = refl
status-more n m true = tests-more n m

below-more : (n : ℕ) (p : ProcessSlot) → bit (below (suc n) p) ≡ bit (below n p) + bit (uses n p)
below-more n p = status-more n p.program (is_none p.status)

count-more : (n : ℕ) (slots : List ProcessSlot) → count_by (below (suc n)) slots ≡ count_by (below n) slots + count_by (uses n) slots
count-more n [] = refl
count-more n (p ∷ ps) =
    let rest = count-more n ps in
    let one = below-more n p in
    let a = count_by-cons (below (suc n)) p ps in
    let b = count_by-cons (below n) p ps in
    let d = count_by-cons (uses n) p ps in
    let e : count_by (below (suc n)) (p ∷ ps) ≡ count_by (below n) (p ∷ ps) + count_by (uses n) (p ∷ ps) = omega (arith, rest, one, a, b, d) in e

-- the number of live processes is at least the number of programs with users
each-used : (n : ℕ) (slots : List ProcessSlot) → ((j : ℕ) → j < n → 0 < count_by (uses j) slots) → n ≤ count_by (below n) slots
each-used zero slots used = omega arith
each-used (suc n) slots used =
    let rest = each-used n slots (λ j less. used j (omega arith)) in
    let last = used n (omega arith) in
    omega (arith, rest, last, count-more n slots)

-- ---- the entries after a program without users is replaced

module _ (programs other : List Shared) (free : ℕ) (same : (j : ℕ) → j ≢ free → shared_program_at other j ≡ shared_program_at programs j) where
  unused-entry : (p : ProcessSlot) → uses free p ≡ false → slot_record other p ≡ slot_record programs p
  unused-entry p unused = by p.status refl
    where
      by : (status : Option ℕ) → p.status ≡ status → slot_record other p ≡ slot_record programs p
      by None none =
          let differs : (p.program == free) ≡ false = sym (ap (λ s. is_none s && (p.program == free)) none) ∙ unused in
          ap (λ program. record_by_slot p program p.status) (same p.program (eqb-false p.program free differs))
      by (Some n) some = ap (record_by_slot p (shared_program_at other p.program)) some ∙ sym (ap (record_by_slot p (shared_program_at programs p.program)) some)

  bit-none : (b : Bool) → bit b ≡ 0 → b ≡ false
  bit-none false is = refl
  bit-none true is = absurd (omega (arith, is))

  unused-entries : (slots : List ProcessSlot) → count_by (uses free) slots ≡ 0 → slot_records other slots ≡ slot_records programs slots
  unused-entries [] none = refl
  unused-entries (p ∷ ps) none =
      let all = count_by-cons (uses free) p ps in
      ap₂ (λ r (es : List (ℕ × ProcessRecord)). (p.number, r) ∷ es) (unused-entry p (bit-none (uses free p) (omega (arith, all, none)))) (unused-entries ps (omega (arith, all, none)))

  -- another slot at k, whatever the old program was
  pub put-loaded : (slots : List ProcessSlot) (pid k : ℕ) (slot gone new : ProcessSlot) → ascends slots ≡ true → IsAt slots pid k slot → new.number ≡ pid → count_by (uses free) (set slots k gone) ≡ 0
      → slot_records other (set slots k new) ≡ put nat_cmp pid (slot_record other new) (slot_records programs slots)
  put-loaded [] pid k slot gone new asc at number none = let within = at.within in absurd (omega arith)
  put-loaded (p ∷ ps) pid zero slot gone new asc at number none =
      let first = first-number p ps pid slot at in
      let all = count_by-cons (uses free) gone ps in
      ap₂ (λ n (es : List (ℕ × ProcessRecord)). (n, slot_record other new) ∷ es) (number ∙ first) (unused-entries ps (omega (arith, all, none)))
      ∙ sym (ap (λ o. by_order o ((pid, slot_record other new) ∷ slot_records programs (p ∷ ps)) ((p.number, slot_record other new) ∷ slot_records programs ps)
      ((p.number, slot_record programs p) ∷ put nat_cmp pid (slot_record other new) (slot_records programs ps))) (equal pid p.number first))
  put-loaded (p ∷ ps) pid (suc k) slot gone new asc at number none =
      let more = past-more p ps pid k slot asc at in
      let all = count_by-cons (uses free) p (set ps k gone) in
      ap₂ (λ r (es : List (ℕ × ProcessRecord)). (p.number, r) ∷ es) (unused-entry p (bit-none (uses free p) (omega (arith, all, none))))
      (put-loaded ps pid k slot gone new (and_parts (list_all (is_above p.number) ps) (ascends ps) asc).1 (following p ps pid k slot at) number (omega (arith, all, none)))
      ∙ sym (ap (λ o. by_order o ((pid, slot_record other new) ∷ slot_records programs (p ∷ ps)) ((p.number, slot_record other new) ∷ slot_records programs ps)
      ((p.number, slot_record programs p) ∷ put nat_cmp pid (slot_record other new) (slot_records programs ps))) (greater pid p.number more))

-- ---- load

module _ (slots : List ProcessSlot) (programs : List Shared) (last : ℕ) (preserved : AreConsistentSlots slots programs last) (pid k : ℕ) (slot : ProcessSlot) (at : IsAt slots pid k slot) (lives : slot.status ≡ None)
    (unreference : List Shared) (long : length unreference ≡ length programs) (fewer : users_at unreference slot.program + 1 ≡ users_at programs slot.program)
    (rest : (j : ℕ) → j ≢ slot.program → users_at unreference j ≡ users_at programs j) where
  abbrev gone : ProcessSlot
  gone = record slot { status = Some 0 }

  without : (j : ℕ) → users_at unreference j ≡ count_by (uses j) (set slots k gone)
  without = users-gone slots programs last preserved pid k slot at lives unreference long fewer rest 0

  -- some program has no users
  pub some-free : length slots ≤ 32 → position has_user unreference ≡ None → ⊥
  some-free few none =
      let full = past (position_or_len has_user unreference) (length unreference) (prefix_len-le-length (λ s. not (has_user s)) unreference) none in
      let table = preserved.table in
      let each = each-used 32 (set slots k gone) (λ j less. subst (λ n. 0 < n) (without j) (all-used unreference j full (omega (arith, long, table)))) in
      let count = count-set (below 32) slots k slot gone at.within at.is in
      let mine : bit (below 32 slot) ≡ 1 = ap bit (ap (λ s. is_none s && nat_lt slot.program 32) lives ∙ list_all-at (λ (p : ProcessSlot). nat_lt p.program 32) slots k slot preserved.within at.within at.is) in
      let most = count_by-le-length (below 32) slots in
      absurd (omega (arith, each, count, mine, most, few))

  module _ (free : ℕ) (within : free < length unreference) (unused : users_at unreference free ≡ 0) (program : Program) where
    abbrev loaded : List Shared
    loaded = set unreference free (record { program = program; users = 1 })

    abbrev pub changed : ProcessSlot
    changed = record slot { program = free; «record» = after_exec slot.record }

    users-loaded : (j : ℕ) → users_at loaded j ≡ count_by (uses j) (set slots k changed)
    users-loaded j =
        let with_gone = count-set (uses j) slots k slot gone at.within at.is in
        let with_changed = count-set (uses j) slots k slot changed at.within at.is in
        let was = without j in
        let same_test : bit (uses j changed) ≡ bit (free == j) = ap (λ s. bit (is_none s && (free == j))) lives in
        ⊎_elim
        (λ (same : j ≡ free).
        let here : bit (free == j) ≡ 1 = ap bit (eq-eqb free j (sym same)) in
        let one : users_at loaded j ≡ 1 = ap (users_at loaded) same ∙ ap user_count (slice_get-set_same unreference free _ within) in
        let none : users_at unreference j ≡ 0 = ap (users_at unreference) same ∙ unused in
        let e : users_at loaded j ≡ count_by (uses j) (set slots k changed) = omega (arith, with_gone, with_changed, was, same_test, here, one, none) in e)
        (λ (different : j ≢ free).
        let other : bit (free == j) ≡ 0 = ap bit (ne_eqb free j (λ same. different (sym same))) in
        let stays : users_at loaded j ≡ users_at unreference j = ap user_count (slice_get-set_other unreference free j _ different) in
        let e : users_at loaded j ≡ count_by (uses j) (set slots k changed) = omega (arith, with_gone, with_changed, was, same_test, other, stays) in e)
        (cases_eq j free)

    pub preserved-loaded : AreConsistentSlots (set slots k changed) loaded last
    preserved-loaded = record {
      ascending = ascends-set slots pid k slot changed preserved.ascending at at.number;
      numbers = list_all-set (is_numbered last) slots k changed preserved.numbers (list_all-at (is_numbered last) slots k slot preserved.numbers at.within at.is);
      last = preserved.last;
      table = length-set unreference free _ ∙ long ∙ preserved.table;
      within = list_all-set (λ (p : ProcessSlot). nat_lt p.program 32) slots k changed preserved.within (lt-ltb free 32 (omega (arith, within, long, preserved.table)));
      users = users-loaded;
    }

    pub load-is : (same : (j : ℕ) → shared_program_at unreference j ≡ shared_program_at programs j) (s : State) (ps : ProcessTable) (seen : process_table_of slots programs last ≡ ps)
        (process : process_in ps pid ≡ Some (process_of (shared_program_at programs slot.program) slot)) → process_table_of (set slots k changed) loaded last ≡ updated_table ps pid (λ p. with_program s pid p program)
    load-is same s ps seen process =
        let others : (j : ℕ) → j ≢ free → shared_program_at loaded j ≡ shared_program_at programs j = λ j different. ap shared_program (slice_get-set_other unreference free j _ different) ∙ same j in
        let own : shared_program_at loaded free ≡ program = ap shared_program (slice_get-set_same unreference free _ within) in
        let new : slot_record loaded changed ≡ live (with_program s pid (process_of (shared_program_at programs slot.program) slot) program) =
        ap (λ p. record_by_slot changed p slot.status) own ∙ ap (record_by_slot changed program) lives in
        ap (λ es. record { processes = es; last_process = last })
        (put-loaded programs loaded free others slots pid k slot gone changed preserved.ascending at at.number (sym (without free) ∙ unused)
        ∙ ap (λ r. put nat_cmp pid r (slot_records programs slots)) new)
        ∙ ap (λ (t : ProcessTable). record t { processes = put nat_cmp pid (live (with_program s pid (process_of (shared_program_at programs slot.program) slot) program)) t.processes }) seen
        ∙ sym (ap (updated_live ps pid (λ p. with_program s pid p program)) process)

-- ---- the initial slots

abbrev pub first_slot : ProcessSlot
first_slot = record { number = 1; parent = 0; status = None; program = 0; «record» = first_record }

abbrev pub unused_program : Shared
unused_program = record { program = []; users = 0 }

unused-at : (n j : ℕ) → users_at (replicate n unused_program) j ≡ 0
unused-at zero j = refl
unused-at (suc n) zero = refl
unused-at (suc n) (suc j) = unused-at n j

pub first-preserved : (program : Program) → AreConsistentSlots (first_slot ∷ []) ((record { program = program; users = 1 }) ∷ replicate 31 unused_program) 1
first-preserved program = record { ascending = refl; numbers = refl; last = omega arith; table = refl; within = refl; users = users }
  where
    users : (j : ℕ) → users_at ((record { program = program; users = 1 }) ∷ replicate 31 unused_program) j ≡ count_by (uses j) (first_slot ∷ [])
    users zero = refl
    users (suc j) =
        let none : bit (uses (suc j) first_slot) ≡ 0 = ap bit (ne_eqb 0 (suc j) (λ same. absurd (omega (arith, same)))) in
        let all = count_by-cons (uses (suc j)) first_slot [] in
        unused-at 31 j ∙ (let e : 0 ≡ count_by (uses (suc j)) (first_slot ∷ []) = omega (arith, none, all) in e)
