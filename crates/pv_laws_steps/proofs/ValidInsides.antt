-- A valid state stays valid if another process takes its inside from a valid state with the same tree and open files.
use Rattle.std.proofs.Common.{◌≡◌, ◌≢◌, ℕ, ◌≤◌, Bool, true, false, ◌==◌, ◌&&◌, if◌then◌else◌, List, [], ◌∷◌, Option, None, Some, is_some, option_map, refl, ap, ap₂, sym, subst, ◌∙◌, ⊎_elim}
use Rattle.std.specs.FinMap.Entries.{find, is_sorted, below_all}
use Rattle.std.specs.List.{list_all}
use Rattle.std.specs.Ordering.{nat_cmp, is_lt}
use Rattle.std.proofs.lemmas.Bool.{cases_eq}
use Rattle.pv_model.specs.declared.limits.TheConstants.{PROCESSES}
use Rattle.pv_model.specs.Machine.{parent_of, Process, ProcessRecord, live, ended_record, State, live_process, process_at}
use Rattle.pv_laws_states.specs.States.{IsRunning, IsPlaced, is_process_number, AreProcesses, IsValid}
use Rattle.pv_laws_states.proofs.ReferenceMembers.{live-found}
use Rattle.pv_laws_steps.specs.Beside.{change_live, with_change, HasSameReferences, become}
use Rattle.pv_laws_steps.proofs.StepsOfOthers.{fits-become}
use Rattle.pv_laws_steps.proofs.ChangedProcess.{changed, change_of, change-itself, find-changed, length-changed, lives-changed, process-changed, collect-changed}

-- ---- numbers

below-changed : (k : ℕ) (f : Process → Process) (n : ℕ) (es : List (ℕ × ProcessRecord)) → below_all nat_cmp n (changed k f es) ≡ below_all nat_cmp n es
below-changed k f n [] = refl
below-changed k f n (e ∷ es) = ap (λ b. is_lt (nat_cmp n e.0) && b) (below-changed k f n es)

sorted-changed : (k : ℕ) (f : Process → Process) (es : List (ℕ × ProcessRecord)) → is_sorted nat_cmp (changed k f es) ≡ is_sorted nat_cmp es
sorted-changed k f [] = refl
sorted-changed k f (e ∷ es) = ap₂ (λ (a b : Bool). a && b) (below-changed k f e.0 es) (sorted-changed k f es)

numbers-changed : (k : ℕ) (f : Process → Process) (test : ℕ → Bool) (es : List (ℕ × ProcessRecord)) → list_all (λ r. test r.0) (changed k f es) ≡ list_all (λ r. test r.0) es
numbers-changed k f test [] = refl
numbers-changed k f test (e ∷ es) = ap (λ b. test e.0 && b) (numbers-changed k f test es)

module _ (s : State) (k : ℕ) (p q : Process) (whole : IsValid s) (at : process_at s k ≡ Some p) (alike : HasSameReferences p q) (running : IsRunning q) (placed : IsPlaced s.tree s.files q) where
  abbrev f : Process → Process
  f = become q

  abbrev u : State
  u = with_change s k f

  -- a live process of the changed state is the changed one, or unchanged
  process-cases : (P : ℕ → Process → Type 0) → P k (f p) → ((j : ℕ) (x : Process) → process_at s j ≡ Some x → P j x) → (j : ℕ) (x : Process) → process_at u j ≡ Some x → P j x
  process-cases P here there j x found = ⊎_elim
      (λ same.
      let is : Some (f p) ≡ Some x =
      sym (ap live_process (find-changed k f k s.processes ∙ ap (option_map (change_of k f k)) (live-found s k p at) ∙ ap Some (change-itself k f (live p)))) ∙ ap (process_at u) (sym same) ∙ found in
      let process : f p ≡ x = cc is in
      subst (λ n. P n x) (sym same) (subst (P k) process here))
      (λ away. there j x (sym (process-changed k f s j away) ∙ found)) (cases_eq j k)

  parent-of_change : (j : ℕ) (r : ProcessRecord) → parent_of (change_of k f j r) ≡ parent_of r
  parent-of_change j r = by (j == k) r
    where
      by : (b : Bool) (r : ProcessRecord) → parent_of (if b then change_live f r else r) ≡ parent_of r
      by true (live x) = refl
      by true (ended_record parent status) = refl
      by false r = refl

  ended-of_change : (j : ℕ) (r : ProcessRecord) (parent status : ℕ) → change_of k f j r ≡ ended_record parent status → r ≡ ended_record parent status
  ended-of_change j r parent status is = by (j == k) r is
    where
      by : (b : Bool) (r : ProcessRecord) → (if b then change_live f r else r) ≡ ended_record parent status → r ≡ ended_record parent status
      by true (live x) is = cc is
      by true (ended_record n m) is = is
      by false r is = is

  -- a record of the changed state is the changed one, or unchanged
  record-cases : (P : ProcessRecord → Type 0) (j : ℕ) → ((r : ProcessRecord) → find nat_cmp j s.processes ≡ Some r → P (change_of k f j r)) → (v : ProcessRecord) → find nat_cmp j u.processes ≡ Some v → P v
  record-cases P j each v found = by (find nat_cmp j s.processes) refl (sym (find-changed k f j s.processes) ∙ found)
    where
      by : (o : Option ProcessRecord) → find nat_cmp j s.processes ≡ o → option_map (change_of k f j) o ≡ Some v → P v
      by None none is = cc is
      by (Some r) there is = let same : change_of k f j r ≡ v = cc is in subst P same (each r there)

  processes-changed : AreProcesses u
  processes-changed =
      let ps = whole.processes in
      record {
        ascending = sorted-changed k f s.processes ∙ ps.ascending;
        numbers = numbers-changed k f (is_process_number s.last_process) s.processes ∙ ps.numbers;
        count = subst (λ n. n ≤ PROCESSES) (sym (length-changed k f s.processes)) ps.count;
        last = ps.last;
        running = process-cases (λ j x. IsRunning x) (record { program = running.program; line = running.line; registers = running.registers; buffer = running.buffer }) ps.running;
        placed = process-cases (λ j x. IsPlaced s.tree s.files x) (record { directory = placed.directory; descriptors = placed.descriptors; opens = placed.opens; table = placed.table }) ps.placed;
        first = λ x found. process-cases (λ j x. j ≡ 1 → x.parent ≡ 0) (λ is. ps.first p (ap (process_at s) (sym is) ∙ at)) (λ j y there is. ps.first y (ap (process_at s) (sym is) ∙ there)) 1 x found refl;
        parents = λ j v found. record-cases (λ v. parent_of v ≢ 0 → is_some (process_at u (parent_of v)) ≡ true) j
            (λ r there some.
            let same = parent-of_change j r in
            ap (λ n. is_some (process_at u n)) same ∙ lives-changed k f (parent_of r) s.processes ∙ ps.parents j r there (λ none. some (same ∙ none))) v found;
        ended = λ j parent status found. record-cases (λ v. v ≡ ended_record parent status → (parent ≢ 0) × (status ≤ 65535)) j
            (λ r there is. ps.ended j parent status (there ∙ ap Some (ended-of_change j r parent status is))) (ended_record parent status) found refl;
      }

  pub valid-changed : IsValid u
  valid-changed = record {
    tree = whole.tree;
    files = whole.files;
    processes = processes-changed;
    collected = collect-changed k f s (fits-become s k p q whole at alike) ∙ ap (λ x. with_change x k f) whole.collected;
    fits = whole.fits;
    not_too_long = whole.not_too_long;
  }
