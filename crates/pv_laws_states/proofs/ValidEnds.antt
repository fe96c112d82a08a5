-- The end of a process preserves the invariant before collection.
use Rattle.std.proofs.Common.{◌≡◌, ◌≢◌, ℕ, ◌≤◌, Bool, true, false, cond, not, ◌&&◌, ◌==◌, nat_le, List, [], ◌∷◌, map, filter, Option, None, Some, is_some, refl, ap, ap₂, sym, subst, ◌∙◌, ⊎_elim, arith}
use Rattle.std.specs.List.{list_all}
use Rattle.std.specs.Ordering.{nat_cmp, is_lt, is_eq, eq_by_cmp}
use Rattle.std.specs.FinMap.Entries.{find, put, is_sorted, below_all}
use Rattle.std.proofs.lemmas.Bool.{and_parts, and_from, leb-true, eqb-false, eq-eqb, cases_eq}
use Rattle.std.proofs.lemmas.List.{length-map}
use Rattle.pv_model.specs.Machine.{parent_of, adopt, is_unclaimed, adopter, end_process, Process, ProcessRecord, live, ended_record, State, live_process, process_at}
use Rattle.pv_model.specs.Calls.Processes.{with_parent}
use Rattle.pv_laws_states.specs.States.{IsRunning, IsPlaced, is_process_number, IsSolid}
use Rattle.pv_laws_trees.proofs.DirectoryEntries.{list_all-filter}
use Rattle.pv_laws_trees.proofs.ListTests.{filter-fewer}
use Rattle.pv_laws_states.proofs.ReferenceMembers.{find_number_after, find_number_cases, find_number-list_all, live-found, found-live}
use Rattle.pv_laws_states.proofs.Processes.{find-put_same, find-put_other}
use Rattle.pv_laws_states.proofs.ValidStates.{list_all-put_number, length-put_there, sorted-put_number}

-- ---- sorted lists, mapped and filtered

module _ {X : Type 0} (f : X → X) where
  abbrev pub mapped : List (ℕ × X) → List (ℕ × X)
  mapped es = map (λ e. (e.0, f e.1)) es

  below-mapped : (k : ℕ) (es : List (ℕ × X)) → below_all nat_cmp k (mapped es) ≡ below_all nat_cmp k es
  below-mapped k [] = refl
  below-mapped k (e ∷ es) = ap (λ b. is_lt (nat_cmp k e.0) && b) (below-mapped k es)

  pub sorted-mapped : (es : List (ℕ × X)) → is_sorted nat_cmp (mapped es) ≡ is_sorted nat_cmp es
  sorted-mapped [] = refl
  sorted-mapped (e ∷ es) = ap₂ (λ a b. a && b) (below-mapped e.0 es) (sorted-mapped es)

  pub found-mapped : (k : ℕ) (es : List (ℕ × X)) (r : X) → find nat_cmp k (mapped es) ≡ Some r → (x : X) × (find nat_cmp k es ≡ Some x) × (f x ≡ r)
  found-mapped k [] r is = cc
  found-mapped k (e ∷ es) r is =
      elim (eq_by_cmp nat_cmp k e.0) as (λ b. cond b (Some (f e.1)) (find nat_cmp k (mapped es)) ≡ Some r → (x : X) × (cond b (Some e.1) (find nat_cmp k es) ≡ Some x) × (f x ≡ r)) [
        | true ↦ λ here. (e.1, refl, cc here)
        | false ↦ λ there. found-mapped k es r there
      ] is

  pub mapped-found : (k : ℕ) (es : List (ℕ × X)) (x : X) → find nat_cmp k es ≡ Some x → find nat_cmp k (mapped es) ≡ Some (f x)
  mapped-found k [] x is = cc
  mapped-found k (e ∷ es) x is =
      elim (eq_by_cmp nat_cmp k e.0) as (λ b. cond b (Some e.1) (find nat_cmp k es) ≡ Some x → cond b (Some (f e.1)) (find nat_cmp k (mapped es)) ≡ Some (f x)) [
        | true ↦ λ here. let same : e.1 ≡ x = cc here in ap (λ y. Some (f y)) same
        | false ↦ λ there. mapped-found k es x there
      ] is

  keys-mapped : (test : ℕ → Bool) (es : List (ℕ × X)) → list_all (λ e. test e.0) (mapped es) ≡ list_all (λ e. test e.0) es
  keys-mapped test [] = refl
  keys-mapped test (e ∷ es) = ap (λ b. test e.0 && b) (keys-mapped test es)

module _ {X : Type 0} (keeps : ℕ × X → Bool) where
  below-filtered : (k : ℕ) (es : List (ℕ × X)) → below_all nat_cmp k es ≡ true → below_all nat_cmp k (filter keeps es) ≡ true
  below-filtered k [] below = refl
  below-filtered k (e ∷ es) below =
      let parts = and_parts (is_lt (nat_cmp k e.0)) (below_all nat_cmp k es) below in
      elim (keeps e) as (λ b. below_all nat_cmp k (cond b (e ∷ filter keeps es) (filter keeps es)) ≡ true) [ true ↦ and_from _ _ parts.0 (below-filtered k es parts.1) | false ↦ below-filtered k es parts.1 ]

  pub sorted-filtered : (es : List (ℕ × X)) → is_sorted nat_cmp es ≡ true → is_sorted nat_cmp (filter keeps es) ≡ true
  sorted-filtered [] sorted = refl
  sorted-filtered (e ∷ es) sorted =
      let parts = and_parts (below_all nat_cmp e.0 es) (is_sorted nat_cmp es) sorted in
      elim (keeps e) as (λ b. is_sorted nat_cmp (cond b (e ∷ filter keeps es) (filter keeps es)) ≡ true) [ true ↦ and_from _ _ (below-filtered e.0 es parts.0) (sorted-filtered es parts.1) | false ↦ sorted-filtered es parts.1 ]

  -- an element found in a filtered list is in the list, and passes
  pub found-filtered : (es : List (ℕ × X)) → is_sorted nat_cmp es ≡ true → (k : ℕ) (r : X) → find nat_cmp k (filter keeps es) ≡ Some r → (find nat_cmp k es ≡ Some r) × (keeps (k, r) ≡ true)
  found-filtered [] sorted k r is = cc
  found-filtered (e ∷ es) sorted k r is =
      let parts = and_parts (below_all nat_cmp e.0 es) (is_sorted nat_cmp es) sorted in
      elim (keeps e) as (λ b. keeps e ≡ b → find nat_cmp k (cond b (e ∷ filter keeps es) (filter keeps es)) ≡ Some r → (find nat_cmp k (e ∷ es) ≡ Some r) × (keeps (k, r) ≡ true)) [
        | true ↦ λ preserved found. find_number_cases ((find nat_cmp k (e ∷ es) ≡ Some r) × (keeps (k, r) ≡ true)) k r e (filter keeps es) found
            (λ same value. (ap₂ (λ q v. find nat_cmp q ((e.0, v) ∷ es)) same value ∙ first (e.0) r es, ap₂ (λ q v. keeps (q, v)) same (sym value) ∙ preserved))
            (λ there. let more = found-filtered es parts.1 k r there in (find_number_after k r e es sorted more.0, more.1))
        | false ↦ λ gone found. let more = found-filtered es parts.1 k r found in (find_number_after k r e es sorted more.0, more.1)
      ] refl is
    where
      first : (k : ℕ) (v : X) (es : List (ℕ × X)) → find nat_cmp k ((k, v) ∷ es) ≡ Some v
      first k v es = ap (λ o. cond (is_eq o) (Some v) (find nat_cmp k es)) (Rattle.pv_laws_states.proofs.Processes.number-itself k)

  pub filtered-found : (es : List (ℕ × X)) (k : ℕ) (r : X) → find nat_cmp k es ≡ Some r → keeps (k, r) ≡ true → find nat_cmp k (filter keeps es) ≡ Some r
  filtered-found [] k r is preserved = cc
  filtered-found (e ∷ es) k r is preserved =
      find_number_cases (find nat_cmp k (filter keeps (e ∷ es)) ≡ Some r) k r e es is
      (λ same value. ap (λ b. find nat_cmp k (cond b (e ∷ filter keeps es) (filter keeps es))) (ap₂ (λ q v. keeps (q, v)) (sym same) value ∙ preserved)
      ∙ ap (λ b. cond b (Some e.1) (find nat_cmp k (filter keeps es))) (sym (Rattle.std.specs.Cmp.unsigned_ties k e.0) ∙ eq-eqb k e.0 same) ∙ ap Some value)
      (λ there. elim (keeps e) as (λ b. find nat_cmp k (cond b (e ∷ filter keeps es) (filter keeps es)) ≡ Some r) [
        | true ↦ elim (eq_by_cmp nat_cmp k e.0) as (λ t. eq_by_cmp nat_cmp k e.0 ≡ t → cond t (Some e.1) (find nat_cmp k es) ≡ Some r → cond t (Some e.1) (find nat_cmp k (filter keeps es)) ≡ Some r) [
          | true ↦ λ _ at. at
          | false ↦ λ _ at. filtered-found es k r at preserved
        ] refl is
        | false ↦ filtered-found es k r there preserved
      ])

-- ---- the end of a process

abbrev one_or_none : Bool → ℕ
one_or_none b = cond b 1 0

-- the record of a child of process `old`
abbrev pub adopted : ℕ → ℕ → ProcessRecord → ProcessRecord
adopted old new r = cond (parent_of r == old) (with_parent r new) r

adopt-is : (old new : ℕ) (e : ℕ × ProcessRecord) → adopt old new e ≡ (e.0, adopted old new e.1)
adopt-is old new e =
    elim (parent_of e.1 == old) as (λ b. cond b (e.0, with_parent e.1 new) e ≡ (e.0, cond b (with_parent e.1 new) e.1)) [ true ↦ refl | false ↦ refl ]

pub map-adopt : (old new : ℕ) (es : List (ℕ × ProcessRecord)) → map (adopt old new) es ≡ mapped (adopted old new) es
map-adopt old new [] = refl
map-adopt old new (e ∷ es) = ap₂ (λ x (xs : List (ℕ × ProcessRecord)). x ∷ xs) (adopt-is old new e) (map-adopt old new es)

parent-with : (r : ProcessRecord) (n : ℕ) → parent_of (with_parent r n) ≡ n
parent-with (live p) n = refl
parent-with (ended_record parent status) n = refl

parent-adopted : (old new : ℕ) (r : ProcessRecord) → parent_of (adopted old new r) ≡ cond (parent_of r == old) new (parent_of r)
parent-adopted old new r =
    elim (parent_of r == old) as (λ b. parent_of (cond b (with_parent r new) r) ≡ cond b new (parent_of r)) [ true ↦ parent-with r new | false ↦ refl ]

pub adopted-live : (old new : ℕ) (p : Process) → (q : Process) × (adopted old new (live p) ≡ live q)
adopted-live old new p = elim (p.parent == old) as (λ b. (q : Process) × (cond b (live (record p { parent = new })) (live p) ≡ live q)) [ true ↦ (record p { parent = new }, refl) | false ↦ (p, refl) ]

-- a live record was live, perhaps with another parent
pub live-adopted : (old new : ℕ) (r : ProcessRecord) (p : Process) → adopted old new r ≡ live p → (q : Process) × (r ≡ live q) × (p ≡ record q { parent = p.parent })
live-adopted old new (live q) p is =
    elim (q.parent == old) as (λ b. cond b (live (record q { parent = new })) (live q) ≡ live p → (x : Process) × (live q ≡ live x) × (p ≡ record x { parent = p.parent })) [
      | true ↦ λ at. let same : record q { parent = new } ≡ p = cc at in (q, refl, sym same ∙ ap (λ (x : Process). record q { parent = x.parent }) same)
      | false ↦ λ at. let same : q ≡ p = cc at in (q, refl, sym same ∙ ap (λ (x : Process). record q { parent = x.parent }) same)
    ] is
live-adopted old new (ended_record parent status) p is =
    elim (parent == old) as (λ b. cond b (ended_record new status) (ended_record parent status) ≡ live p → (q : Process) × (ended_record parent status ≡ live q) × (p ≡ record q { parent = p.parent })) [
      | true ↦ λ at. cc at
      | false ↦ λ at. cc at
    ] is

ended-adopted : (old new : ℕ) (r : ProcessRecord) (parent status : ℕ) → adopted old new r ≡ ended_record parent status → (was : ℕ) × (r ≡ ended_record was status)
ended-adopted old new (live q) parent status is =
    elim (q.parent == old) as (λ b. cond b (live (record q { parent = new })) (live q) ≡ ended_record parent status → (was : ℕ) × (live q ≡ ended_record was status)) [
      | true ↦ λ at. cc at
      | false ↦ λ at. cc at
    ] is
ended-adopted old new (ended_record above left) parent status is =
    elim (above == old) as (λ b. cond b (ended_record new left) (ended_record above left) ≡ ended_record parent status → (was : ℕ) × (ended_record above left ≡ ended_record was status)) [
      | true ↦ λ at. let same : left ≡ status = cc at in (above, ap (ended_record above) same)
      | false ↦ λ at. (parent, at)
    ] is

pub running-parent : (p : Process) (n : ℕ) → IsRunning p → IsRunning (record p { parent = n })
running-parent p n is = record { program = is.program; line = is.line; registers = is.registers; buffer = is.buffer }

pub placed-parent : (t : Rattle.pv_model.specs.Tree.Tree) (fs : Rattle.pv_model.specs.Numbered.Numbered Rattle.pv_model.specs.State.OpenFile) (p : Process) (n : ℕ) → IsPlaced t fs p → IsPlaced t fs (record p { parent = n })
placed-parent t fs p n is = record { directory = is.directory; descriptors = is.descriptors; opens = is.opens; table = is.table }

module _ (s : State) (is : IsSolid s) (pid : ℕ) (p me : Process) (at : process_at s pid ≡ Some p) (same : me.parent ≡ p.parent) (status : ℕ) (low : status ≤ 65535) where
  abbrev gone : ProcessRecord
  gone = ended_record me.parent status

  abbrev put_away : State
  put_away = record s { processes = put nat_cmp pid gone s.processes }

  abbrev heir : ℕ
  heir = adopter put_away

  abbrev claimed : ℕ × ProcessRecord → Bool
  claimed r = not (is_unclaimed r.1)

  abbrev left : List (ℕ × ProcessRecord)
  left = filter claimed (mapped (adopted pid heir) put_away.processes)

  abbrev after : State
  after = record put_away { processes = left }

  was_found : find nat_cmp pid s.processes ≡ Some (live p)
  was_found = live-found s pid p at

  -- a record other than that of pid
  away-cases : (P : Type 0) (k : ℕ) (x : ProcessRecord) → find nat_cmp k put_away.processes ≡ Some x → (k ≡ pid → x ≡ gone → P) → (k ≢ pid → find nat_cmp k s.processes ≡ Some x → P) → P
  away-cases P k x found here there =
      ⊎_elim
      (λ eq. let value : Some gone ≡ Some x = sym (find-put_same pid gone s.processes) ∙ ap (λ j. find nat_cmp j put_away.processes) (sym eq) ∙ found in let is' : gone ≡ x = cc value in here eq (sym is'))
      (λ other. there other (sym (find-put_other k pid gone s.processes other) ∙ found)) (cases_eq k pid)

  in_order : is_sorted nat_cmp (mapped (adopted pid heir) put_away.processes) ≡ true
  in_order = sorted-mapped (adopted pid heir) put_away.processes ∙ sorted-put_number pid gone s.processes is.processes.ascending

  -- a record that remains was there
  left-was : (k : ℕ) (r : ProcessRecord) → find nat_cmp k left ≡ Some r → (x : ProcessRecord) × (find nat_cmp k put_away.processes ≡ Some x) × (adopted pid heir x ≡ r) × (is_unclaimed r ≡ false)
  left-was k r found =
      let preserved = found-filtered claimed (mapped (adopted pid heir) put_away.processes) in_order k r found in
      let was = found-mapped (adopted pid heir) k put_away.processes r preserved.0 in
      (was.0, was.1, was.2, Rattle.std.proofs.lemmas.Bool.not-true (is_unclaimed r) preserved.1)

  left-live : (k : ℕ) (r : Process) → process_at after k ≡ Some r → (q : Process) × (process_at s k ≡ Some q) × (r ≡ record q { parent = r.parent })
  left-live k r found =
      let was = left-was k (live r) (live-found after k r found) in
      let old = live-adopted pid heir was.0 r was.2 in
      away-cases ((q : Process) × (process_at s k ≡ Some q) × (r ≡ record q { parent = r.parent })) k was.0 was.1
      (λ here eq. cc (sym eq ∙ old.1)) (λ other there. (old.0, found-live s k old.0 (there ∙ ap Some old.1), old.2))

  -- another live process stays live
  stays_live : (k : ℕ) → is_some (process_at s k) ≡ true → k ≢ pid → is_some (process_at after k) ≡ true
  stays_live k some other = by (process_at s k) refl some
    where
      by : (o : Option Process) → process_at s k ≡ o → is_some o ≡ true → is_some (process_at after k) ≡ true
      by None none some = cc
      by (Some q) found some =
          let there = find-put_other k pid gone s.processes other ∙ live-found s k q found in
          let turned = adopted-live pid heir q in
          ap is_some (ap live_process (filtered-found claimed (mapped (adopted pid heir) put_away.processes) k (live turned.0)
          (mapped-found (adopted pid heir) k put_away.processes (live q) there ∙ ap Some turned.1) refl))

  not_mine : process_at put_away pid ≡ None
  not_mine = ap live_process (find-put_same pid gone s.processes)

  heir_lives : heir ≢ 0 → is_some (process_at after heir) ≡ true
  heir_lives has = by (is_some (process_at put_away 1)) refl has
    where
      by : (b : Bool) → is_some (process_at put_away 1) ≡ b → one_or_none b ≢ 0 → is_some (process_at after (one_or_none b)) ≡ true
      by true some has =
          let other : pid ≢ 1 = λ turned. let eq : 1 ≡ pid = sym turned in let none = ap (λ k. is_some (process_at put_away k)) eq ∙ ap is_some not_mine in cc in
          stays_live 1 (sym (ap (λ o. is_some (live_process o)) (find-put_other 1 pid gone s.processes (λ eq. other (sym eq)))) ∙ some) (λ eq. other (sym eq))
      by false some has = absurd (has refl)

  above_lives : (k : ℕ) (x : ProcessRecord) → find nat_cmp k put_away.processes ≡ Some x → (b : Bool) → (parent_of x == pid) ≡ b
      → cond b heir (parent_of x) ≢ 0 → is_some (process_at after (cond b heir (parent_of x))) ≡ true
  above_lives k x found true mine has = heir_lives has
  above_lives k x found false mine has =
      stays_live (parent_of x)
      (away-cases (is_some (process_at s (parent_of x)) ≡ true) k x found
      (λ here eq. let up : parent_of x ≡ p.parent = ap parent_of eq ∙ same in ap (λ n. is_some (process_at s n)) up ∙ is.processes.parents pid (live p) was_found (λ none. has (up ∙ none)))
      (λ other there. is.processes.parents k x there has))
      (eqb-false (parent_of x) pid mine)

  left-solid : IsSolid after
  left-solid = record {
    tree = is.tree;
    files = is.files;
    processes = record {
      ascending = sorted-filtered claimed (mapped (adopted pid heir) put_away.processes) in_order;
      numbers = list_all-filter (λ (r : ℕ × ProcessRecord). is_process_number s.last_process r.0) claimed (mapped (adopted pid heir) put_away.processes)
          (keys-mapped (adopted pid heir) (is_process_number s.last_process) put_away.processes
          ∙ list_all-put_number (is_process_number s.last_process) pid gone s.processes (find_number-list_all (is_process_number s.last_process) pid (live p) s.processes is.processes.numbers was_found) is.processes.numbers);
      count =
          let few = filter-fewer claimed (mapped (adopted pid heir) put_away.processes) in
          let long = length-map {B = ℕ × ProcessRecord} put_away.processes (λ e. (e.0, adopted pid heir e.1)) in
          let put = length-put_there pid gone (live p) s.processes is.processes.ascending was_found in
          omega (arith, few, long, put, is.processes.count);
      last = is.processes.last;
      running = λ k r found. let old = left-live k r found in subst IsRunning (sym old.2) (running-parent old.0 r.parent (is.processes.running k old.0 old.1));
      placed = λ k r found. let old = left-live k r found in subst (IsPlaced s.tree s.files) (sym old.2) (placed-parent s.tree s.files old.0 r.parent (is.processes.placed k old.0 old.1));
      first = λ r found.
          let was = left-was 1 (live r) (live-found after 1 r found) in
          let old = live-adopted pid heir was.0 r was.2 in
          let up : r.parent ≡ cond (parent_of was.0 == pid) heir (parent_of was.0) = sym (ap parent_of was.2) ∙ parent-adopted pid heir was.0 in
          let top : parent_of was.0 ≡ 0 = away-cases (parent_of was.0 ≡ 0) 1 was.0 was.1
          (λ here eq. cc (sym eq ∙ old.1)) (λ other there. ap parent_of old.1 ∙ is.processes.first old.0 (found-live s 1 old.0 (there ∙ ap Some old.1))) in
          let positive = leb-true 1 pid (and_parts (nat_le 1 pid) _ (find_number-list_all (is_process_number s.last_process) pid (live p) s.processes is.processes.numbers was_found)).0 in
          up ∙ ap (λ n. cond (n == pid) heir n) top
          ∙ ap (λ b. cond b heir 0) (Rattle.std.proofs.lemmas.Bool.ne_eqb 0 pid (λ eq. absurd (omega arith)));
      parents = λ k r found has.
          let was = left-was k r found in
          let up : parent_of r ≡ cond (parent_of was.0 == pid) heir (parent_of was.0) = sym (ap parent_of was.2) ∙ parent-adopted pid heir was.0 in
          ap (λ n. is_some (process_at after n)) up ∙ above_lives k was.0 was.1 (parent_of was.0 == pid) refl (λ none. has (up ∙ none));
      ended = λ k above code found.
          let was = left-was k (ended_record above code) found in
          let old = ended-adopted pid heir was.0 above code was.2 in (
            eqb-false above 0 was.3,
            away-cases (code ≤ 65535) k was.0 was.1
                (λ here eq. let value : code ≡ status = cc (sym old.1 ∙ eq) in omega (arith, value, low)) (λ other there. (is.processes.ended k old.0 code (there ∙ ap Some old.1)).1),
          );
    };
  }

  pub solid-end : IsSolid (end_process s pid me status)
  unfolding end_process
  solid-end = subst (λ es. IsSolid (record put_away { processes = filter claimed es })) (sym (map-adopt pid heir put_away.processes)) left-solid

pub tree-end : (s : State) (pid : ℕ) (me : Process) (status : ℕ) → (end_process s pid me status).tree ≡ s.tree
unfolding end_process
tree-end s pid me status = refl

pub last-end : (s : State) (pid : ℕ) (me : Process) (status : ℕ) → (end_process s pid me status).last_process ≡ s.last_process
unfolding end_process
last-end s pid me status = refl
