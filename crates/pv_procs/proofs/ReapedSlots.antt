-- A child that is waited for, on the slots.
use Rattle.std.proofs.Common.{◌≡◌, ℕ, zero, suc, ◌+◌, ◌<◌, Bool, true, false, cond, not, ◌&&◌, ◌||◌, ◌==◌, nat_lt, List, [], ◌∷◌, filter, length, count_by, position, Option, None, Some, is_none, is_some, refl, sym, ap, ap₂, subst, ◌∙◌, arith}
use Rattle.std.specs.FinMap.Entries.{where_key}
use Rattle.std.specs.Prelude.{◌↔◌, IsTrue}
use Rattle.std.specs.List.{list_all, list_any, remove, position_or_len, prefix_len}
use Rattle.std.specs.Ordering.{nat_cmp}
use Rattle.std.proofs.Math.ListN.{get_or}
use Rattle.std.proofs.lemmas.Bool.{and_parts, and_from, eq-eqb, ne_eqb, ltb-true}
use Rattle.std.proofs.lemmas.List.Quantifiers.{position-Some}
use Rattle.std.proofs.lemmas.List.Sums.{prefix_len-le-length}
use Rattle.pv_model.specs.declared.errno.Errno.TheVariants.{ECHILD}
use Rattle.pv_model.specs.Machine.{Attempt, done, refused, ◌>>◌, give, refuse_if, is_empty, little_endian, parent_of, statuses, reap, wait, Effect, Reply, returns_bytes, waits, answers_bytes, Numbered, OpenFile, Process, ProcessRecord, State, Tree}
use Rattle.pv_files.proofs.ViewedMaps.{past}
use Rattle.pv_procs.specs.declared.slot.ProcessSlot.{ProcessSlot}
use Rattle.pv_procs.specs.declared.shared.Shared.{Shared}
use Rattle.pv_procs.specs.declared.processes.Reap.TheVariants.{Child, Blocked, NoChild}
use Rattle.pv_procs.specs.Slots.{AreConsistentSlots, record_by_slot, slot_record, slot_records, is_above, ascends, is_numbered, is_ended_child, uses, users_at, shared_program_at, process_table_of}
use Rattle.pv_procs.specs.ProcessTable.{ProcessTable, state_with}
use Rattle.pv_procs.specs.Reaping.{waited}
use Rattle.pv_procs.proofs.SlotLookups.{parent-entry, above_at}
use Rattle.pv_procs.proofs.SlotInvariant.{bit, count_by-cons}

-- ---- children

module _ (programs : List Shared) (pid : ℕ) where
  abbrev is_child : ℕ × ProcessRecord → Bool
  is_child r = parent_of r.1 == pid

  abbrev pub children_in : List ProcessSlot → List (ℕ × ProcessRecord)
  children_in slots = filter is_child (slot_records programs slots)

  -- the first slot, by its parent and its status
  abbrev first_by : ProcessSlot → List (ℕ × ProcessRecord) → Bool → Option ℕ → List (ℕ × ℕ)
  first_by p rest b status = statuses (cond b ((p.number, record_by_slot p (shared_program_at programs p.program) status) ∷ rest) rest)

  first-is : (p : ProcessSlot) (ps : List ProcessSlot) (b : Bool) → (p.parent == pid) ≡ b → (status : Option ℕ) → p.status ≡ status
      → statuses (children_in (p ∷ ps)) ≡ first_by p (children_in ps) b status
  first-is p ps b is status has =
      ap (λ t. statuses (cond t ((p.number, slot_record programs p) ∷ children_in ps) (children_in ps))) (ap (λ n. n == pid) (parent-entry p (shared_program_at programs p.program) p.status) ∙ is)
      ∙ ap (first_by p (children_in ps) b) has

  test-is : (p : ProcessSlot) (b : Bool) → (p.parent == pid) ≡ b → (status : Option ℕ) → p.status ≡ status → is_ended_child pid p ≡ (b && is_some status)
  test-is p b is status has = ap₂ (λ a s. a && is_some s) is has

  -- if no child has ended
  none-ended : (slots : List ProcessSlot) → position_or_len (λ (p : ProcessSlot). is_ended_child pid p) slots ≡ length slots → statuses (children_in slots) ≡ []
  none-ended [] is = refl
  none-ended (p ∷ ps) is =
      by (λ test.
      let counts = ap (λ b. cond (not b) (1 + prefix_len (λ (q : ProcessSlot). not (is_ended_child pid q)) ps) 0) (sym test) ∙ is in none-ended ps (omega (arith, counts)))
      (p.parent == pid) refl p.status refl
    where
      by : (is_ended_child pid p ≡ false → statuses (children_in ps) ≡ []) → (b : Bool) → (p.parent == pid) ≡ b → (status : Option ℕ) → p.status ≡ status → statuses (children_in (p ∷ ps)) ≡ []
      by following false same status has = first-is p ps false same status has ∙ following (test-is p false same status has)
      by following true same None has = first-is p ps true same None has ∙ following (test-is p true same None has)
      by following true same (Some n) has =
          let counts = ap (λ b. cond (not b) (1 + prefix_len (λ (q : ProcessSlot). not (is_ended_child pid q)) ps) 0) (sym (test-is p true same (Some n) has)) ∙ is in
          absurd (omega (arith, counts))

  pub nobody-ended : (slots : List ProcessSlot) → position (λ (p : ProcessSlot). is_ended_child pid p) slots ≡ None → statuses (children_in slots) ≡ []
  nobody-ended slots none =
      none-ended slots
      (past (position_or_len (λ (p : ProcessSlot). is_ended_child pid p) slots) (length slots) (prefix_len-le-length (λ (p : ProcessSlot). not (is_ended_child pid p)) slots) none)

  -- the first child that has ended
  first-ended : (slots : List ProcessSlot) (k : ℕ) (slot : ProcessSlot) (status : ℕ) → k < length slots → slot ≡ get_or slots k slot → is_ended_child pid slot ≡ true → slot.status ≡ Some status
      → ((j : ℕ) → j < k → is_ended_child pid (get_or slots j slot) ≡ false) → (rest : List (ℕ × ℕ)) × (statuses (children_in slots) ≡ (slot.number, status) ∷ rest)
  first-ended [] k slot status within is test has before = absurd (omega arith)
  first-ended (p ∷ ps) zero slot status within is test has before =
      let same : (p.parent == pid) ≡ true = ap (λ (q : ProcessSlot). q.parent == pid) (sym is) ∙ (and_parts (slot.parent == pid) (is_some slot.status) test).0 in
      let ended : p.status ≡ Some status = ap (λ (q : ProcessSlot). q.status) (sym is) ∙ has in
      (statuses (children_in ps), first-is p ps true same (Some status) ended ∙ ap (λ (q : ProcessSlot). (q.number, status) ∷ statuses (children_in ps)) (sym is))
  first-ended (p ∷ ps) (suc k) slot status within is test has before =
      by (first-ended ps k slot status (omega arith) is test has (λ j less. before (suc j) (omega arith))) (p.parent == pid) refl p.status refl
    where
      by : (rest : List (ℕ × ℕ)) × (statuses (children_in ps) ≡ (slot.number, status) ∷ rest) → (b : Bool) → (p.parent == pid) ≡ b → (s : Option ℕ) → p.status ≡ s → (rest : List (ℕ × ℕ)) × (statuses (children_in (p ∷ ps)) ≡ (slot.number, status) ∷ rest)
      by more false same s ended = (more.0, first-is p ps false same s ended ∙ more.1)
      by more true same None ended = (more.0, first-is p ps true same None ended ∙ more.1)
      by more true same (Some n) ended = let no = sym (test-is p true same (Some n) ended) ∙ before 0 (omega arith) in cc

  -- whether there is a child
  pub any-child : (slots : List ProcessSlot) → list_any (λ (p : ProcessSlot). p.parent == pid) slots ≡ not (is_empty (children_in slots))
  any-child [] = refl
  any-child (p ∷ ps) = by (any-child ps) (p.parent == pid) refl
    where
      by : list_any (λ (q : ProcessSlot). q.parent == pid) ps ≡ not (is_empty (children_in ps)) → (b : Bool) → (p.parent == pid) ≡ b → list_any (λ (p : ProcessSlot). p.parent == pid) (p ∷ ps) ≡ not (is_empty (children_in (p ∷ ps)))
      by rest b same =
          ap (λ t. t || list_any (λ (q : ProcessSlot). q.parent == pid) ps) same
          ∙ elim b as (λ t. (t || list_any (λ (q : ProcessSlot). q.parent == pid) ps) ≡ not (is_empty (cond t ((p.number, slot_record programs p) ∷ children_in ps) (children_in ps)))) [ true ↦ refl | false ↦ rest ]
          ∙ sym (ap (λ t. not (is_empty (cond t ((p.number, slot_record programs p) ∷ children_in ps) (children_in ps)))) (ap (λ n. n == pid) (parent-entry p (shared_program_at programs p.program) p.status) ∙ same))

  abbrev pub ended_in : List ProcessSlot → Bool
  ended_in slots = list_any (λ (p : ProcessSlot). is_ended_child pid p) slots

  -- whether a child has ended
  pub any-ended : (slots : List ProcessSlot) → list_any (λ (p : ProcessSlot). is_ended_child pid p) slots ≡ not (is_empty (statuses (children_in slots)))
  any-ended [] = refl
  any-ended (p ∷ ps) = by (any-ended ps) (p.parent == pid) refl p.status refl
    where
      by : ended_in ps ≡ not (is_empty (statuses (children_in ps))) → (b : Bool) → (p.parent == pid) ≡ b → (status : Option ℕ) → p.status ≡ status
          → ended_in (p ∷ ps) ≡ not (is_empty (statuses (children_in (p ∷ ps))))
      by rest false same status has =
          ap (λ t. t || ended_in ps) (test-is p false same status has) ∙ rest ∙ sym (ap (λ ss. not (is_empty ss)) (first-is p ps false same status has))
      by rest true same None has =
          ap (λ t. t || ended_in ps) (test-is p true same None has) ∙ rest ∙ sym (ap (λ ss. not (is_empty ss)) (first-is p ps true same None has))
      by rest true same (Some n) has =
          ap (λ t. t || ended_in ps) (test-is p true same (Some n) has) ∙ sym (ap (λ ss. not (is_empty ss)) (first-is p ps true same (Some n) has))

-- ---- removing a slot

module _ {X : Type 0} where
  pub list_all-remove : (test : X → Bool) (xs : List X) (k : ℕ) → list_all test xs ≡ true → list_all test (remove xs k) ≡ true
  list_all-remove test [] zero all = refl
  list_all-remove test [] (suc k) all = refl
  list_all-remove test (x ∷ xs) zero all = (and_parts (test x) (list_all test xs) all).1
  list_all-remove test (x ∷ xs) (suc k) all = let parts = and_parts (test x) (list_all test xs) all in and_from _ _ parts.0 (list_all-remove test xs k parts.1)

  count-remove : (p : X → Bool) (xs : List X) (k : ℕ) (x : X) → k < length xs → x ≡ get_or xs k x → count_by p (remove xs k) + bit (p x) ≡ count_by p xs
  count-remove p [] k x within is = absurd (omega arith)
  count-remove p (y ∷ ys) zero x within is =
      let same : bit (p x) ≡ bit (p y) = ap (λ v. bit (p v)) is in
      let all = count_by-cons p y ys in
      let e : count_by p ys + bit (p x) ≡ count_by p (y ∷ ys) = omega (arith, same, all) in e
  count-remove p (y ∷ ys) (suc k) x within is =
      let rest = count-remove p ys k x (omega arith) is in
      let after = count_by-cons p y (remove ys k) in
      let before = count_by-cons p y ys in
      let e : count_by p (y ∷ remove ys k) + bit (p x) ≡ count_by p (y ∷ ys) = omega (arith, rest, after, before) in e

ascends-remove : (slots : List ProcessSlot) (k : ℕ) → ascends slots ≡ true → ascends (remove slots k) ≡ true
ascends-remove [] zero asc = refl
ascends-remove [] (suc k) asc = refl
ascends-remove (p ∷ ps) zero asc = (and_parts (list_all (is_above p.number) ps) (ascends ps) asc).1
ascends-remove (p ∷ ps) (suc k) asc =
    let parts = and_parts (list_all (is_above p.number) ps) (ascends ps) asc in and_from _ _ (list_all-remove (is_above p.number) ps k parts.0) (ascends-remove ps k parts.1)

pub preserved-remove : (slots : List ProcessSlot) (programs : List Shared) (last : ℕ) → AreConsistentSlots slots programs last → (k : ℕ) (slot : ProcessSlot) (status : ℕ) → k < length slots → slot ≡ get_or slots k slot
    → slot.status ≡ Some status → AreConsistentSlots (remove slots k) programs last
preserved-remove slots programs last preserved k slot status within is ended = record {
  ascending = ascends-remove slots k preserved.ascending;
  numbers = list_all-remove (is_numbered last) slots k preserved.numbers;
  last = preserved.last;
  table = preserved.table;
  within = list_all-remove (λ (p : ProcessSlot). nat_lt p.program 32) slots k preserved.within;
  users = λ j.
      let count = count-remove (uses j) slots k slot within is in
      let none : bit (uses j slot) ≡ 0 = ap (λ s. bit (is_none s && (slot.program == j))) ended in
      let was = preserved.users j in
      let e : users_at programs j ≡ count_by (uses j) (remove slots k) = omega (arith, count, none, was) in e;
}

abbrev others : ℕ → ℕ → Bool
others number n = not (n == number)

all-others : (programs : List Shared) (number : ℕ) (slots : List ProcessSlot) → list_all (is_above number) slots ≡ true → where_key nat_cmp (others number) (slot_records programs slots) ≡ slot_records programs slots
all-others programs number [] all = refl
all-others programs number (p ∷ ps) all =
    let parts = and_parts (is_above number p) (list_all (is_above number) ps) all in
    let more = ltb-true number p.number parts.0 in
    ap (λ b. cond (not b) ((p.number, slot_record programs p) ∷ where_key nat_cmp (others number) (slot_records programs ps)) (where_key nat_cmp (others number) (slot_records programs ps)))
    (ne_eqb p.number number (λ same. absurd (omega arith)))
    ∙ ap (λ es. (p.number, slot_record programs p) ∷ es) (all-others programs number ps parts.1)

pub remove-at : (programs : List Shared) (slots : List ProcessSlot) (k : ℕ) (slot : ProcessSlot) → ascends slots ≡ true → k < length slots → slot ≡ get_or slots k slot
    → where_key nat_cmp (others slot.number) (slot_records programs slots) ≡ slot_records programs (remove slots k)
remove-at programs [] k slot asc within is = absurd (omega arith)
remove-at programs (p ∷ ps) zero slot asc within is =
    let same : p.number ≡ slot.number = ap (λ (q : ProcessSlot). q.number) (sym is) in
    ap (λ b. cond (not b) ((p.number, slot_record programs p) ∷ where_key nat_cmp (others slot.number) (slot_records programs ps)) (where_key nat_cmp (others slot.number) (slot_records programs ps)))
    (eq-eqb p.number slot.number same)
    ∙ ap (λ n. where_key nat_cmp (others n) (slot_records programs ps)) (sym same)
    ∙ all-others programs p.number ps (and_parts (list_all (is_above p.number) ps) (ascends ps) asc).0
remove-at programs (p ∷ ps) (suc k) slot asc within is =
    let parts = and_parts (list_all (is_above p.number) ps) (ascends ps) asc in
    let more = above_at p.number ps k slot parts.0 (omega arith) is in
    ap (λ b. cond (not b) ((p.number, slot_record programs p) ∷ where_key nat_cmp (others slot.number) (slot_records programs ps)) (where_key nat_cmp (others slot.number) (slot_records programs ps)))
    (ne_eqb p.number slot.number (λ same. absurd (omega arith)))
    ∙ ap (λ es. (p.number, slot_record programs p) ∷ es) (remove-at programs ps k slot parts.1 (omega arith) is)

-- ---- wait

module _ (slots : List ProcessSlot) (programs : List Shared) (last pid : ℕ) (t : Tree) (files : Numbered OpenFile) (me : Process) where
  abbrev before : State
  before = state_with t files (process_table_of slots programs last)

  abbrev wait_by : Bool → List (ℕ × ℕ) → Attempt Effect
  wait_by childless ended = refuse_if ECHILD childless >> reap before pid me ended

  pub childless : list_any (λ (p : ProcessSlot). p.parent == pid) slots ≡ false → wait before pid me ≡ waited NoChild before
  childless none =
      let empty : is_empty (children_in programs pid slots) ≡ true = by (is_empty (children_in programs pid slots)) refl in
      ap (λ b. wait_by b (statuses (children_in programs pid slots))) empty
    where
      by : (b : Bool) → is_empty (children_in programs pid slots) ≡ b → is_empty (children_in programs pid slots) ≡ true
      by true is = is
      by false is = let no = sym none ∙ any-child programs pid slots ∙ ap not is in cc

  pub blocked : list_any (λ (p : ProcessSlot). p.parent == pid) slots ≡ true → position (λ (p : ProcessSlot). is_ended_child pid p) slots ≡ None → wait before pid me ≡ waited Blocked before
  blocked some none =
      let full : is_empty (children_in programs pid slots) ≡ false = by (is_empty (children_in programs pid slots)) refl in
      ap₂ wait_by full (nobody-ended programs pid slots none)
    where
      by : (b : Bool) → is_empty (children_in programs pid slots) ≡ b → is_empty (children_in programs pid slots) ≡ false
      by false is = is
      by true is = let no = sym some ∙ any-child programs pid slots ∙ ap not is in cc

  -- a list with an ended child is not empty
  not-empty : (rs : List (ℕ × ProcessRecord)) (one : ℕ × ℕ) (rest : List (ℕ × ℕ)) → statuses rs ≡ one ∷ rest → is_empty rs ≡ false
  not-empty [] one rest is = cc
  not-empty (r ∷ rs) one rest is = refl

  pub reaped : ascends slots ≡ true → (k : ℕ) (slot : ProcessSlot) (status : ℕ) → position (λ (p : ProcessSlot). is_ended_child pid p) slots ≡ Some k → slot ≡ get_or slots k slot
      → slot.status ≡ Some status → wait before pid me ≡ waited (Child slot.number status) (state_with t files (process_table_of (remove slots k) programs last))
  reaped asc k slot status found is ended =
      let at = position-Some (λ (p : ProcessSlot). is_ended_child pid p) slots k slot found in
      let test : is_ended_child pid slot ≡ true = ap (is_ended_child pid) is ∙ at.1 in
      let first = first-ended programs pid slots k slot status at.0 is test ended at.2 in
      ap₂ wait_by (not-empty (children_in programs pid slots) (slot.number, status) first.0 first.1) first.1
      ∙ ap (λ es. answers_bytes (record { tree = t; files = files; processes = es; last_process = last }) slot.number (little_endian 4 status)) (remove-at programs slots k slot asc at.0 is)

  waits-by : (rs : List (ℕ × ProcessRecord)) (ss : List (ℕ × ℕ)) → IsTrue (not (is_empty rs) && not (not (is_empty ss))) ↔ (wait_by (is_empty rs) ss ≡ give (before, waits))
  waits-by [] ss = (λ no. cc, λ no. cc)
  waits-by (r ∷ rs) [] = (λ is. refl, λ is. refl)
  waits-by (r ∷ rs) (one ∷ ss) = (λ no. cc, λ no. apart one ss no)
    where
      apart : (one : ℕ × ℕ) (ss : List (ℕ × ℕ)) → reap before pid me (one ∷ ss) ≡ give (before, waits) → false ≡ true
      apart (number, status) ss is = reported (ap reply_of is)
        where
          reply_of : Attempt Effect → Reply
          reply_of (done walks effect) = effect.1
          reply_of (refused walks errno cause) = waits

          reported : returns_bytes number (little_endian 4 status) ≡ waits → false ≡ true
          reported is = cc

  waits-where : (IsTrue (list_any (λ (p : ProcessSlot). p.parent == pid) slots && not (ended_in programs pid slots))) ↔ (wait before pid me ≡ give (before, waits))
  waits-where =
      rw (any-child programs pid slots, any-ended programs pid slots) (waits-by (children_in programs pid slots) (statuses (children_in programs pid slots)))

  -- whether wait blocks, by two tests
  pub waits-tested : (some ended result : Bool) → some ≡ list_any (λ (p : ProcessSlot). p.parent == pid) slots → ended ≡ list_any (λ (p : ProcessSlot). is_ended_child pid p) slots
      → result ≡ (some && not ended) → (table : ProcessTable) → process_table_of slots programs last ≡ table
      → IsTrue result ↔ (wait (state_with t files table) pid me ≡ give (state_with t files table, waits))
  waits-tested some ended result is has both table same =
      subst (λ (v : ProcessTable). IsTrue result ↔ (wait (state_with t files v) pid me ≡ give (state_with t files v, waits))) same
      (subst (λ b. IsTrue b ↔ (wait before pid me ≡ give (before, waits))) (sym (both ∙ ap₂ (λ a b. a && not b) is has)) waits-where)

-- it is within the list, and has ended
pub ended-within : (pid : ℕ) (slots : List ProcessSlot) (k : ℕ) (slot : ProcessSlot) → position (λ (p : ProcessSlot). is_ended_child pid p) slots ≡ Some k → k < length slots
ended-within pid slots k slot found = (position-Some (λ (p : ProcessSlot). is_ended_child pid p) slots k slot found).0

pub ended-status : (pid : ℕ) (slots : List ProcessSlot) (k : ℕ) (slot : ProcessSlot) → position (λ (p : ProcessSlot). is_ended_child pid p) slots ≡ Some k → slot ≡ get_or slots k slot → is_some slot.status ≡ true
ended-status pid slots k slot found is =
    let at = position-Some (λ (p : ProcessSlot). is_ended_child pid p) slots k slot found in
    (and_parts (slot.parent == pid) (is_some slot.status) (ap (is_ended_child pid) is ∙ at.1)).1

pub status-is : (status : Option ℕ) (n : ℕ) → is_some status ≡ true → Rattle.std.specs.Prelude.unwrap_or status 0 ≡ n → status ≡ Some n
status-is None n some is = cc
status-is (Some m) n some is = ap Some is
