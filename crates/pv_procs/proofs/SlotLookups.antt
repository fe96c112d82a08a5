-- Finding slots by their numbers, and the effect of a change there.
use Rattle.std.proofs.Common.{◌≡◌, ℕ, zero, suc, ◌+◌, ◌<◌, ◌≤◌, Bool, true, false, cond, not, ◌==◌, nat_lt, List, [], ◌∷◌, length, Option, None, Some, is_some, position, IsSome, option_map, refl, sym, ap, ap₂, subst, ◌∙◌, arith}
use Rattle.std.specs.Prelude.{find as first_where}
use Rattle.std.specs.Cmp.{tied_itself, unsigned_ties}
use Rattle.std.specs.FinMap.Entries.{by_order, find, put}
use Rattle.std.specs.List.{list_all, position_or_len, prefix_len, AllWithin, HoldsAt}
use Rattle.std.specs.List.Sorted.{IsNonDecreasingBy}
use Rattle.std.specs.Ordering.{is_eq, nat_cmp, ordering_index}
use Rattle.std.specs.declared.cmp.Ordering.TheVariants.{Less, Equal, Greater}
use Rattle.std.proofs.Math.ListN.{get_or, set}
use Rattle.std.proofs.lemmas.Bool.{and_parts, ltb-true, ltb-false, lt-ltb, le-ltb, eqb-true, eqb-false, eq-eqb, ne_eqb}
use Rattle.std.proofs.lemmas.Bool.Decides.{nat_tests}
use Rattle.std.proofs.lemmas.Cmp.{nat_cmp_total}
use Rattle.std.proofs.lemmas.List.{get_or_default}
use Rattle.std.proofs.lemmas.List.Quantifiers.{position-Some}
use Rattle.std.proofs.lemmas.List.Sums.{prefix_len-le-length}
use Rattle.pv_model.specs.Machine.{Program, Process, ProcessRecord, live, live_process, parent_of}
use Rattle.pv_files.proofs.ViewedMaps.{past}
use Rattle.pv_procs.specs.declared.slot.ProcessSlot.{ProcessSlot}
use Rattle.pv_procs.specs.declared.shared.Shared.{Shared}
use Rattle.pv_procs.specs.Slots.{process_of, record_by_slot, slot_record, slot_records, is_above, ascends, shared_program_at, process_table_of}
use Rattle.pv_procs.specs.ProcessTable.{ProcessTable, ended_process, number_after, process_in, updated_table, updated_live}

-- a slot with a number has an index
pub record IsAt (slots : List ProcessSlot) (pid k : ℕ) (slot : ProcessSlot) : Type 0 where
  pub within : k < length slots
  pub is : slot ≡ get_or slots k slot
  pub number : slot.number ≡ pid

pub above_at : (n : ℕ) (slots : List ProcessSlot) (k : ℕ) (slot : ProcessSlot) → list_all (is_above n) slots ≡ true → k < length slots → slot ≡ get_or slots k slot → n < slot.number
above_at n [] k slot all within is = absurd (omega arith)
above_at n (p ∷ ps) zero slot all within is =
    subst (λ (q : ProcessSlot). n < q.number) (sym is) (ltb-true n p.number (and_parts (is_above n p) (list_all (is_above n) ps) all).0)
above_at n (p ∷ ps) (suc k) slot all within is = above_at n ps k slot (and_parts (is_above n p) (list_all (is_above n) ps) all).1 (omega arith) is

-- a slot after the first of a list
pub following : (p : ProcessSlot) (ps : List ProcessSlot) (pid k : ℕ) (slot : ProcessSlot) → IsAt (p ∷ ps) pid (suc k) slot → IsAt ps pid k slot
following p ps pid k slot at = record { within = omega (arith, at.within); is = at.is; number = at.number }

-- has a greater number
pub past-more : (p : ProcessSlot) (ps : List ProcessSlot) (pid k : ℕ) (slot : ProcessSlot) → ascends (p ∷ ps) ≡ true → IsAt (p ∷ ps) pid (suc k) slot → p.number < pid
past-more p ps pid k slot asc at =
    let parts = and_parts (list_all (is_above p.number) ps) (ascends ps) asc in
    let there = following p ps pid k slot at in
    subst (λ n. p.number < n) at.number (above_at p.number ps k slot parts.0 there.within there.is)

pub first-number : (p : ProcessSlot) (ps : List ProcessSlot) (pid : ℕ) (slot : ProcessSlot) → IsAt (p ∷ ps) pid zero slot → pid ≡ p.number
first-number p ps pid slot at = sym at.number ∙ ap (λ (q : ProcessSlot). q.number) at.is

pub greater : (q n : ℕ) → n < q → nat_cmp q n ≡ Greater
greater q n more = ap₂ (λ a b. cond a Less (cond b Equal Greater)) (le-ltb q n (omega arith)) (ne_eqb q n (λ same. absurd (omega arith)))

pub equal : (q n : ℕ) → q ≡ n → nat_cmp q n ≡ Equal
equal q n same = subst (λ m. nat_cmp q m ≡ Equal) same (tied_itself nat_cmp_total q)

module _ (programs : List Shared) where
  pub find-at : (slots : List ProcessSlot) (pid k : ℕ) (slot : ProcessSlot) → ascends slots ≡ true → IsAt slots pid k slot
      → find nat_cmp pid (slot_records programs slots) ≡ Some (slot_record programs slot)
  find-at [] pid k slot asc at = let within = at.within in absurd (omega arith)
  find-at (p ∷ ps) pid zero slot asc at =
      ap (λ b. cond b (Some (slot_record programs p)) (find nat_cmp pid (slot_records programs ps)))
      (sym (unsigned_ties pid p.number) ∙ eq-eqb pid p.number (first-number p ps pid slot at)) ∙ ap (λ q. Some (slot_record programs q)) (sym at.is)
  find-at (p ∷ ps) pid (suc k) slot asc at =
      let more = past-more p ps pid k slot asc at in
      ap (λ b. cond b (Some (slot_record programs p)) (find nat_cmp pid (slot_records programs ps)))
      (sym (unsigned_ties pid p.number) ∙ ne_eqb pid p.number (λ same. absurd (omega arith)))
      ∙ find-at ps pid k slot (and_parts (list_all (is_above p.number) ps) (ascends ps) asc).1 (following p ps pid k slot at)

  pub put-at : (slots : List ProcessSlot) (pid k : ℕ) (slot new : ProcessSlot) → ascends slots ≡ true → IsAt slots pid k slot → new.number ≡ pid
      → slot_records programs (set slots k new) ≡ put nat_cmp pid (slot_record programs new) (slot_records programs slots)
  put-at [] pid k slot new asc at same = let within = at.within in absurd (omega arith)
  put-at (p ∷ ps) pid zero slot new asc at same =
      let first = first-number p ps pid slot at in
      ap (λ n. (n, slot_record programs new) ∷ slot_records programs ps) (same ∙ first)
      ∙ sym (ap (λ o. by_order o ((pid, slot_record programs new) ∷ slot_records programs (p ∷ ps)) ((p.number, slot_record programs new) ∷ slot_records programs ps)
      ((p.number, slot_record programs p) ∷ put nat_cmp pid (slot_record programs new) (slot_records programs ps))) (equal pid p.number first))
  put-at (p ∷ ps) pid (suc k) slot new asc at same =
      let more = past-more p ps pid k slot asc at in
      ap (λ es. (p.number, slot_record programs p) ∷ es)
      (put-at ps pid k slot new (and_parts (list_all (is_above p.number) ps) (ascends ps) asc).1 (following p ps pid k slot at) same)
      ∙ sym (ap (λ o. by_order o ((pid, slot_record programs new) ∷ slot_records programs (p ∷ ps)) ((p.number, slot_record programs new) ∷ slot_records programs ps)
      ((p.number, slot_record programs p) ∷ put nat_cmp pid (slot_record programs new) (slot_records programs ps))) (greater pid p.number more))

  none-found : (slots : List ProcessSlot) (pid : ℕ) → position_or_len (λ (p : ProcessSlot). p.number == pid) slots ≡ length slots → find nat_cmp pid (slot_records programs slots) ≡ None
  none-found [] pid is = refl
  none-found (p ∷ ps) pid is =
      elim (p.number == pid) as (λ b. (p.number == pid) ≡ b → cond (not b) (1 + prefix_len (λ (q : ProcessSlot). not (q.number == pid)) ps) 0 ≡ suc (length ps)
      → find nat_cmp pid (slot_records programs (p ∷ ps)) ≡ None) [
        | true ↦ λ here none. absurd (omega (arith, none))
        | false ↦ λ other one.
            ap (λ b. cond b (Some (slot_record programs p)) (find nat_cmp pid (slot_records programs ps)))
            (sym (unsigned_ties pid p.number) ∙ ne_eqb pid p.number (λ same. eqb-false p.number pid other (sym same)))
            ∙ none-found ps pid (omega (arith, one))
      ] refl is

  -- if no slot has the number
  pub find-none : (slots : List ProcessSlot) (pid : ℕ) → position (λ (p : ProcessSlot). p.number == pid) slots ≡ None → find nat_cmp pid (slot_records programs slots) ≡ None
  find-none slots pid none =
      none-found slots pid
      (past (position_or_len (λ (p : ProcessSlot). p.number == pid) slots) (length slots) (prefix_len-le-length (λ (p : ProcessSlot). not (p.number == pid)) slots) none)

-- where a search stops
pub found-at : (slots : List ProcessSlot) (pid k : ℕ) (slot : ProcessSlot) → position (λ (p : ProcessSlot). p.number == pid) slots ≡ Some k → slot ≡ get_or slots k slot → IsAt slots pid k slot
found-at slots pid k slot found is =
    let at = position-Some (λ (p : ProcessSlot). p.number == pid) slots k slot found in
    record { within = at.0; is = is; number = eqb-true slot.number pid (ap (λ (q : ProcessSlot). q.number == pid) is ∙ at.1) }

-- ---- where a binary search stops

onward : (n k : ℕ) → n ≡ k → 1 + n ≡ suc k
onward n k is = omega (arith, is)

first-at : (slots : List ProcessSlot) (pid k : ℕ) (slot : ProcessSlot) → ascends slots ≡ true → IsAt slots pid k slot → position_or_len (λ (p : ProcessSlot). p.number == pid) slots ≡ k
first-at [] pid k slot asc at = let within = at.within in absurd (omega arith)
first-at (p ∷ ps) pid zero slot asc at =
    ap (λ b. cond (not b) (1 + prefix_len (λ (q : ProcessSlot). not (q.number == pid)) ps) 0) (eq-eqb p.number pid (sym (first-number p ps pid slot at)))
first-at (p ∷ ps) pid (suc k) slot asc at =
    let more = past-more p ps pid k slot asc at in
    ap (λ b. cond (not b) (1 + prefix_len (λ (q : ProcessSlot). not (q.number == pid)) ps) 0) (ne_eqb p.number pid (λ same. absurd (omega arith)))
    ∙ onward (position_or_len (λ (q : ProcessSlot). q.number == pid) ps) k (first-at ps pid k slot (and_parts (list_all (is_above p.number) ps) (ascends ps) asc).1 (following p ps pid k slot at))

-- the numbers ascend
rises : (slots : List ProcessSlot) (i j : ℕ) (d : ProcessSlot) → ascends slots ≡ true → i ≤ j → j < length slots → (get_or slots i d).number ≤ (get_or slots j d).number
rises [] i j d asc le within = absurd (omega arith)
rises (p ∷ ps) zero zero d asc le within = omega arith
rises (p ∷ ps) zero (suc j) d asc le within =
    let inside : j < length ps = omega (arith, within) in
    let more = above_at p.number ps j (get_or ps j d) (and_parts (list_all (is_above p.number) ps) (ascends ps) asc).0 inside (get_or_default ps j d (get_or ps j d) inside) in
    omega (arith, more)
rises (p ∷ ps) (suc i) zero d asc le within = absurd (omega arith)
rises (p ∷ ps) (suc i) (suc j) d asc le within = rises ps i j d (and_parts (list_all (is_above p.number) ps) (ascends ps) asc).1 (omega (arith, le)) (omega (arith, within))

higher : (a b n : ℕ) → a ≤ b → ordering_index (nat_cmp a n) ≤ ordering_index (nat_cmp b n)
higher a b n le = grind (arith, nat_tests)

-- a number that no search finds
first-none : (slots : List ProcessSlot) (pid : ℕ) → ((k : ℕ) (d : ProcessSlot) → k < length slots → nat_cmp (get_or slots k d).number pid ≡ Equal → ⊥) → position_or_len (λ (p : ProcessSlot). p.number == pid) slots ≡ length slots
first-none [] pid none = refl
first-none (p ∷ ps) pid none =
    ap (λ b. cond (not b) (1 + prefix_len (λ (q : ProcessSlot). not (q.number == pid)) ps) 0) (ne_eqb p.number pid (λ same. none 0 p (omega arith) (equal p.number pid same)))
    ∙ onward (position_or_len (λ (q : ProcessSlot). q.number == pid) ps) (length ps) (first-none ps pid (λ k d within. none (suc k) d (omega (arith, within))))

same-number : (q n : ℕ) → nat_cmp q n ≡ Equal → q ≡ n
same-number q n tied = eqb-true q n (unsigned_ties q n ∙ ap is_eq tied)

-- a slot with the number is the first
pub appeared-found : (slots : List ProcessSlot) (pid k : ℕ) (slot : ProcessSlot) → ascends slots ≡ true → IsAt slots pid k slot → Some k ≡ position (λ (p : ProcessSlot). p.number == pid) slots
appeared-found slots pid k slot asc at =
    sym (ap (λ n. cond (nat_lt n (length slots)) (Some n) None) (first-at slots pid k slot asc at) ∙ ap (λ b. cond b (Some k) None) (lt-ltb k (length slots) at.within))

module _ (slots : List ProcessSlot) (pid : ℕ) (asc : ascends slots ≡ true) where
  -- the index at which a binary search stops is the first with the number
  pub half-found : (k : ℕ) → k < length slots → HoldsAt (λ (p : ProcessSlot). nat_cmp p.number pid ≡ Equal) slots k → Some k ≡ position (λ (p : ProcessSlot). p.number == pid) slots
  half-found k within tied = by slots refl within
    where
      by : (xs : List ProcessSlot) → xs ≡ slots → k < length xs → Some k ≡ position (λ (p : ProcessSlot). p.number == pid) slots
      by [] is inside = absurd (omega arith)
      by (p ∷ ps) is inside =
          let slot = get_or slots k p in
          let number = same-number slot.number pid (tied p) in
          let at : IsAt slots pid k slot = record { within = within; is = get_or_default slots k p slot within; number = number } in
          appeared-found slots pid k slot asc at

  -- if it finds none, no slot has the number
  pub half-none : (i : ℕ) → (IsNonDecreasingBy (λ (p : ProcessSlot). ordering_index (nat_cmp p.number pid)) slots
      → AllWithin (λ (p : ProcessSlot). nat_cmp p.number pid ≡ Less) slots 0 i × AllWithin (λ (p : ProcessSlot). nat_cmp p.number pid ≡ Greater) slots i (length slots))
      → None ≡ position (λ (p : ProcessSlot). p.number == pid) slots
  half-none i parted =
      let halves = parted (λ a b d le within. higher (get_or slots a d).number (get_or slots b d).number pid (rises slots a b d asc le within)) in
      let none = first-none slots pid (λ k d within tied.
      elim (nat_lt k i) as (λ b. nat_lt k i ≡ b → ⊥) [
        | true ↦ λ low. let less = halves.0 k d (omega arith) (ltb-true k i low) in cc
        | false ↦ λ high. let more = halves.1 k d (ltb-false k i high) within in cc
      ] refl) in
      sym (ap (λ n. cond (nat_lt n (length slots)) (Some n) None) none ∙ ap (λ b. cond b (Some (length slots)) None) (le-ltb (length slots) (length slots) (omega arith)))

-- ---- live processes

pub live_status : (slot : ProcessSlot) (program : Program) (status : Option ℕ) → is_some (live_process (Some (record_by_slot slot program status))) ≡ true → status ≡ None
live_status slot program None is = refl
live_status slot program (Some n) is = cc

pub live_is : (slot : ProcessSlot) (program : Program) (status : Option ℕ) → status ≡ None → live_process (Some (record_by_slot slot program status)) ≡ Some (process_of program slot)
live_is slot program status none = ap (λ s. live_process (Some (record_by_slot slot program s))) none

pub ended_is : (slot : ProcessSlot) (program : Program) (status : Option ℕ) (n : ℕ) → status ≡ Some n → live_process (Some (record_by_slot slot program status)) ≡ None
ended_is slot program status n is = ap (λ s. live_process (Some (record_by_slot slot program s))) is

pub live_test : (slot : ProcessSlot) (program : Program) (status : Option ℕ) (lives : Bool) → is_some status ≡ not lives → lives ≡ is_some (live_process (Some (record_by_slot slot program status)))
live_test slot program None true is = refl
live_test slot program None false is = cc
live_test slot program (Some n) true is = cc
live_test slot program (Some n) false is = refl

pub parent-entry : (slot : ProcessSlot) (program : Program) (status : Option ℕ) → parent_of (record_by_slot slot program status) ≡ slot.parent
parent-entry slot program None = refl
parent-entry slot program (Some n) = refl

-- the entry of a zombie
pub ended-entry : (slot : ProcessSlot) (program : Program) (status : Option ℕ) → ended_process (Some (record_by_slot slot program status)) ≡ option_map (λ n. (slot.parent, n)) status
ended-entry slot program None = refl
ended-entry slot program (Some n) = refl

-- the first greater number
pub number-seen : (programs : List Shared) (last : ℕ) (slots : List ProcessSlot)
    → option_map (λ (slot : ProcessSlot). slot.number) (first_where (λ (slot : ProcessSlot). nat_lt last slot.number) slots) ≡ number_after last (slot_records programs slots)
number-seen programs last [] = refl
number-seen programs last (p ∷ ps) =
    elim (nat_lt last p.number) as (λ b. option_map (λ (slot : ProcessSlot). slot.number) (cond b (Some p) (first_where (λ (slot : ProcessSlot). nat_lt last slot.number) ps))
    ≡ option_map (λ (r : ℕ × ProcessRecord). r.0) (cond b (Some (p.number, slot_record programs p)) (first_where (λ (r : ℕ × ProcessRecord). nat_lt last r.0) (slot_records programs ps)))) [
      | true ↦ refl
      | false ↦ number-seen programs last ps
    ]

unless-none : {X : Type 0} (o : Option X) → (o ≡ None → ⊥) → is_some o ≡ true
unless-none None not = absurd (not refl)
unless-none (Some x) not = refl

pub none-some : {X : Type 0} (o : Option X) → o ≡ None → is_some o ≡ true → ⊥
none-some o none some = let no = ap is_some none in cc

-- a slot and its process, derived from the view of contracts
module _ (slots : List ProcessSlot) (programs : List Shared) (last : ℕ) (ps : ProcessTable) (seen : process_table_of slots programs last ≡ ps) (pid : ℕ) where
  pub seen-none : position (λ (p : ProcessSlot). p.number == pid) slots ≡ None → find nat_cmp pid ps.processes ≡ None
  seen-none none = ap (λ (t : ProcessTable). find nat_cmp pid t.processes) (sym seen) ∙ find-none programs slots pid none

  -- a process without a slot of a live process is not live
  pub gone-in : live_process (find nat_cmp pid (slot_records programs slots)) ≡ None → process_in ps pid ≡ None
  gone-in none = ap (λ (t : ProcessTable). process_in t pid) (sym seen) ∙ none

  -- a live process has a slot
  pub live-slot : IsSome (process_in ps pid) → IsSome (position (λ (p : ProcessSlot). p.number == pid) slots)
  live-slot there = unless-none (position (λ (p : ProcessSlot). p.number == pid) slots) (λ none. none-some (process_in ps pid) (ap live_process (seen-none none)) there)

  module _ (asc : ascends slots ≡ true) (k : ℕ) (slot : ProcessSlot) (at : IsAt slots pid k slot) where
    pub seen-at : find nat_cmp pid ps.processes ≡ Some (slot_record programs slot)
    seen-at = ap (λ (t : ProcessTable). find nat_cmp pid t.processes) (sym seen) ∙ find-at programs slots pid k slot asc at

    pub status-at : IsSome (process_in ps pid) → slot.status ≡ None
    status-at there = live_status slot (shared_program_at programs slot.program) slot.status (sym (ap (λ o. is_some (live_process o)) seen-at) ∙ there)

    pub living : slot.status ≡ None → process_in ps pid ≡ Some (process_of (shared_program_at programs slot.program) slot)
    living none = ap live_process seen-at ∙ live_is slot (shared_program_at programs slot.program) slot.status none

    pub process-at : IsSome (process_in ps pid) → process_in ps pid ≡ Some (process_of (shared_program_at programs slot.program) slot)
    process-at there = living (status-at there)

    -- another slot there changes the live process
    pub changed-at : (there : IsSome (process_in ps pid)) (new : ProcessSlot) (f : Process → Process) → new.number ≡ pid → new.status ≡ None
        → process_of (shared_program_at programs new.program) new ≡ f (process_of (shared_program_at programs slot.program) slot)
        → process_table_of (set slots k new) programs last ≡ updated_table ps pid f
    changed-at there new f number status is =
        let entry : slot_record programs new ≡ live (f (process_of (shared_program_at programs slot.program) slot)) =
        ap (record_by_slot new (shared_program_at programs new.program)) status ∙ ap live is in
        let put_there : process_table_of (set slots k new) programs last ≡ record ps { processes = put nat_cmp pid (live (f (process_of (shared_program_at programs slot.program) slot))) ps.processes } =
        ap (λ es. record { processes = es; last_process = last }) (put-at programs slots pid k slot new asc at number)
        ∙ ap (λ r. record { processes = put nat_cmp pid r (slot_records programs slots); last_process = last }) entry
        ∙ ap (λ (t : ProcessTable). record t { processes = put nat_cmp pid (live (f (process_of (shared_program_at programs slot.program) slot))) t.processes }) seen in
        put_there ∙ sym (ap (updated_live ps pid f) (process-at there))
