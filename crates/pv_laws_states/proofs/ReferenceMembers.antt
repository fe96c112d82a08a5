-- References: the numbers that processes and open files reference, one by one.
use Rattle.std.proofs.Common.{◌≡◌, ◌≢◌, ℕ, zero, suc, Bool, true, false, cond, ◌||◌, ◌==◌, List, [], ◌∷◌, map, flat_map, Option, None, Some, refl, ap, sym, ◌∙◌, ⊎_elim}
use Rattle.std.specs.List.{list_all}
use Rattle.std.specs.Cmp.{unsigned_ties}
use Rattle.std.specs.Ordering.{nat_cmp, is_eq, is_lt, eq_by_cmp}
use Rattle.std.specs.FinMap.Entries.{find, is_sorted, below_all}
use Rattle.std.specs.declared.cmp.Ordering.TheVariants.{Less, Equal, Greater}
use Rattle.std.proofs.lemmas.Bool.{and_parts, or_cases, or_left, or_right, eqb-true, eq-eqb, ne_eqb}
use Rattle.std.proofs.lemmas.List.Folds.{list_any-append}
use Rattle.pv_model.specs.Machine.{among, live_processes, used_files, held_by_process, Numbered, at_number, present, keep, OpenFile, Descriptor, Process, ProcessRecord, live, ended_record, State, live_process, process_at}
use Rattle.pv_laws_states.specs.Held.{used}
use Rattle.pv_laws_trees.proofs.NumberedMaps.{keep-passes, keep-some}
use Rattle.pv_laws_states.proofs.CollectedStates.{held_after}

-- ---- present values

module _ {X : Type 0} (f : X → ℕ) where
  pub among-present : (xs : Numbered X) (k : ℕ) (x : X) → at_number xs k ≡ Some x → among (map f (present xs)) (f x) ≡ true
  among-present [] k x is = cc
  among-present (None ∷ xs) zero x is = cc
  among-present (None ∷ xs) (suc k) x is = among-present xs k x is
  among-present (Some y ∷ xs) zero x is = let same : y ≡ x = cc is in or_left (f y == f x) _ (eq-eqb (f y) (f x) (ap f same))
  among-present (Some y ∷ xs) (suc k) x is = or_right (f y == f x) _ (among-present xs k x is)

  pub present-at : (xs : Numbered X) (n : ℕ) → among (map f (present xs)) n ≡ true → (k : ℕ) × (x : X) × (at_number xs k ≡ Some x) × (f x ≡ n)
  present-at [] n is = cc
  present-at (None ∷ xs) n is = let found = present-at xs n is in (suc found.0, found.1, found.2, found.3)
  present-at (Some y ∷ xs) n is =
      ⊎_elim (λ here. (0, y, refl, eqb-true (f y) n here)) (λ there. let found = present-at xs n there in (suc found.0, found.1, found.2, found.3))
      (or_cases (f y == n) (among (map f (present xs)) n) is)

-- ---- lookups in sorted lists

find_number_below : {X : Type 0} (q : ℕ) (es : List (ℕ × X)) → below_all nat_cmp q es ≡ true → find nat_cmp q es ≡ None
find_number_below q [] below = refl
find_number_below q (e ∷ es) below =
    let parts = and_parts _ (below_all nat_cmp q es) below in
    ap (λ b. cond b (Some e.1) (find nat_cmp q es)) (elim (nat_cmp q e.0) as (λ o. is_lt o ≡ true → is_eq o ≡ false) [ Less ↦ λ _. refl | Equal ↦ λ h. cc h | Greater ↦ λ h. refl ] parts.0)
    ∙ find_number_below q es parts.1

-- a lookup after the first element
pub find_number_after : {X : Type 0} (q : ℕ) (v : X) (e : ℕ × X) (es : List (ℕ × X)) → is_sorted nat_cmp (e ∷ es) ≡ true → find nat_cmp q es ≡ Some v
    → find nat_cmp q (e ∷ es) ≡ Some v
find_number_after q v e es sorted is =
    let parts = and_parts (below_all nat_cmp e.0 es) _ sorted in
    let other : q ≢ e.0 = λ same. let none : find nat_cmp q es ≡ None = ap (λ k. find nat_cmp k es) same ∙ find_number_below e.0 es parts.0 in cc in
    ap (λ b. cond b (Some e.1) (find nat_cmp q es)) (sym (unsigned_ties q e.0) ∙ ne_eqb q e.0 other) ∙ is

-- a lookup, by cases
pub find_number_cases : {X : Type 0} (P : Type 0) (q : ℕ) (v : X) (e : ℕ × X) (es : List (ℕ × X)) → find nat_cmp q (e ∷ es) ≡ Some v
    → ((q ≡ e.0) → (e.1 ≡ v) → P) → (find nat_cmp q es ≡ Some v → P) → P
find_number_cases P q v e es is here there =
    elim (eq_by_cmp nat_cmp q e.0) as (λ b. eq_by_cmp nat_cmp q e.0 ≡ b → cond b (Some e.1) (find nat_cmp q es) ≡ Some v → P) [
      | true ↦ λ tied at. here (eqb-true q e.0 (unsigned_ties q e.0 ∙ tied)) (cc at)
      | false ↦ λ tied at. there at
    ] refl is

pub find_number-list_all : {X : Type 0} (test : ℕ → Bool) (q : ℕ) (v : X) (es : List (ℕ × X)) → list_all (λ e. test e.0) es ≡ true → find nat_cmp q es ≡ Some v → test q ≡ true
find_number-list_all test q v [] all is = cc
find_number-list_all test q v (e ∷ es) all is =
    let parts = and_parts (test e.0) (list_all (λ e. test e.0) es) all in
    find_number_cases (test q ≡ true) q v e es is (λ same value. ap test same ∙ parts.0) (λ there. find_number-list_all test q v es parts.1 there)

-- ---- live processes

pub live-found : (s : State) (pid : ℕ) (p : Process) → process_at s pid ≡ Some p → find nat_cmp pid s.processes ≡ Some (live p)
live-found s pid p is = by (find nat_cmp pid s.processes) is
  where
    by : (o : Option ProcessRecord) → live_process o ≡ Some p → o ≡ Some (live p)
    by None is = cc
    by (Some (live q)) is = let same : q ≡ p = cc is in ap (λ x. Some (live x)) same
    by (Some (ended_record parent status)) is = cc

pub found-live : (s : State) (pid : ℕ) (p : Process) → find nat_cmp pid s.processes ≡ Some (live p) → process_at s pid ≡ Some p
found-live s pid p is = ap live_process is

module _ (g : Process → List ℕ) where
  abbrev pub all_of : List (ℕ × ProcessRecord) → List ℕ
  all_of ps = flat_map (λ p. g p.1) (live_processes ps)

  among-live_in : (ps : List (ℕ × ProcessRecord)) (pid : ℕ) (p : Process) (n : ℕ) → find nat_cmp pid ps ≡ Some (live p) → among (g p) n ≡ true → among (all_of ps) n ≡ true
  among-live_in [] pid p n found is = cc
  among-live_in ((number, live q) ∷ ps) pid p n found is =
      list_any-append (λ m. m == n) (g q) (all_of ps)
      ∙ find_number_cases ((among (g q) n || among (all_of ps) n) ≡ true) pid (live p) (number, live q) ps found
      (λ here same. let eq : q ≡ p = cc same in or_left (among (g q) n) _ (ap (λ x. among (g x) n) eq ∙ is))
      (λ there. or_right (among (g q) n) _ (among-live_in ps pid p n there is))
  among-live_in ((number, ended_record parent status) ∷ ps) pid p n found is =
      find_number_cases (among (all_of ps) n ≡ true) pid (live p) (number, ended_record parent status) ps found
      (λ here same. cc same) (λ there. among-live_in ps pid p n there is)

  live_in-among : (ps : List (ℕ × ProcessRecord)) → is_sorted nat_cmp ps ≡ true → (n : ℕ) → among (all_of ps) n ≡ true
      → (pid : ℕ) × (p : Process) × (find nat_cmp pid ps ≡ Some (live p)) × (among (g p) n ≡ true)
  live_in-among [] sorted n is = cc
  live_in-among ((number, live q) ∷ ps) sorted n is =
      ⊎_elim
      (λ here. (number, q, ap (λ b. cond b (Some (live q)) (find nat_cmp number ps)) (sym (unsigned_ties number number) ∙ eq-eqb number number refl), here))
      (λ there. let found = live_in-among ps (and_parts (below_all nat_cmp number ps) _ sorted).1 n there in
      (found.0, found.1, find_number_after found.0 (live found.1) (number, live q) ps sorted found.2, found.3))
      (or_cases (among (g q) n) (among (all_of ps) n) (sym (list_any-append (λ m. m == n) (g q) (all_of ps)) ∙ is))
  live_in-among ((number, ended_record parent status) ∷ ps) sorted n is =
      let found = live_in-among ps (and_parts (below_all nat_cmp number ps) _ sorted).1 n is in
      (found.0, found.1, find_number_after found.0 (live found.1) (number, ended_record parent status) ps sorted found.2, found.3)

-- ---- files in use, and referenced nodes

pub among-used : (s : State) (pid : ℕ) (p : Process) (d : ℕ) (x : Descriptor) → process_at s pid ≡ Some p → at_number p.descriptors d ≡ Some x → among (used s) x.file ≡ true
among-used s pid p d x at is = among-live_in used_files s.processes pid p x.file (live-found s pid p at) (among-present (λ d. d.file) p.descriptors d x is)

pub used-among : (s : State) → is_sorted nat_cmp s.processes ≡ true → (k : ℕ) → among (used s) k ≡ true
    → (pid : ℕ) × (p : Process) × (d : ℕ) × (x : Descriptor) × (process_at s pid ≡ Some p) × (at_number p.descriptors d ≡ Some x) × (x.file ≡ k)
used-among s sorted k is =
    let found = live_in-among used_files s.processes sorted k is in
    let file = present-at (λ d. d.file) found.1.descriptors k found.3 in
    (found.0, found.1, file.0, file.1, found-live s found.0 found.1 found.2, file.2, file.3)

-- the nodes that processes reference
pub among-held_by : (s : State) (pid : ℕ) (p : Process) (n : ℕ) → process_at s pid ≡ Some p → among (held_by_process p) n ≡ true → among (held_after s) n ≡ true
among-held_by s pid p n at is =
    list_any-append (λ m. m == n) (all_of held_by_process s.processes) (map (λ f. f.node) (present (keep (among (used s)) s.files)))
    ∙ or_left _ _ (among-live_in held_by_process s.processes pid p n (live-found s pid p at) is)

pub among-held_file : (s : State) (k : ℕ) (f : OpenFile) → at_number s.files k ≡ Some f → among (used s) k ≡ true → among (held_after s) f.node ≡ true
among-held_file s k f at is =
    list_any-append (λ m. m == f.node) (all_of held_by_process s.processes) (map (λ f. f.node) (present (keep (among (used s)) s.files)))
    ∙ or_right (among (all_of held_by_process s.processes) f.node) _
    (among-present (λ f. f.node) (keep (among (used s)) s.files) k f (keep-passes (among (used s)) s.files k is ∙ at))

-- a referenced node is referenced by a process or an open file
pub held_cases : (P : Type 0) (s : State) → is_sorted nat_cmp s.processes ≡ true → (n : ℕ) → among (held_after s) n ≡ true
    → ((pid : ℕ) (p : Process) → process_at s pid ≡ Some p → among (held_by_process p) n ≡ true → P)
    → ((k : ℕ) (f : OpenFile) → at_number s.files k ≡ Some f → among (used s) k ≡ true → f.node ≡ n → P) → P
held_cases P s sorted n is by_process by_file =
    ⊎_elim
    (λ held. let found = live_in-among held_by_process s.processes sorted n held in by_process found.0 found.1 (found-live s found.0 found.1 found.2) found.3)
    (λ held.
    let found = present-at (λ f. f.node) (keep (among (used s)) s.files) n held in
    let preserved = keep-some (among (used s)) s.files found.0 found.1 found.2 in by_file found.0 found.1 preserved.1 preserved.0 found.3)
    (or_cases (among (all_of held_by_process s.processes) n) _
    (sym (list_any-append (λ m. m == n) (all_of held_by_process s.processes) (map (λ f. f.node) (present (keep (among (used s)) s.files)))) ∙ is))
