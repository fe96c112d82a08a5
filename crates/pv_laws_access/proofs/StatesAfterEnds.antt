-- The state after the end of a process.
use Rattle.std.proofs.Common.{◌≡◌, ◌≢◌, ℕ, zero, suc, ℤ, Bool, true, false, cond, not, if◌then◌else◌, ◌==◌, List, filter, Option, None, Some, is_some, refl, ap, sym, subst, ◌∙◌, ⊎_elim}
use Rattle.std.proofs.lemmas.Bool.{cases_eq, eq-eqb, ne_eqb}
use Rattle.std.specs.FinMap.Entries.{find, is_sorted}
use Rattle.std.specs.Ordering.{nat_cmp}
use Rattle.pv_model.specs.declared.call.Call.{Call}
use Rattle.pv_model.specs.declared.call.Call.TheVariants.{Exit}
use Rattle.pv_model.specs.declared.outcome.Outcome.TheVariants.{Killed}
use Rattle.pv_model.specs.declared.promise.Promise.{Promise}
use Rattle.pv_model.specs.Machine.{answer, at_next_line, effect, Bytes, end_process, among, collect, needs, at_number, Next, inside, calls_for, next, missing_promise, Program, Process, ProcessRecord, live, ended_record, State, process_at, live_process, Stepped, step, step_by, Tree, find_entry}
use Rattle.pv_model.specs.Calls.Processes.{exit_status}
use Rattle.pv_laws_states.specs.Held.{used}
use Rattle.pv_laws_states.specs.States.{IsTree, IsValid}
use Rattle.pv_laws_trees.proofs.NumberedMaps.{keep-some}
use Rattle.pv_laws_states.proofs.ValidEnds.{mapped, sorted-mapped, found-mapped, mapped-found, found-filtered, filtered-found, adopted, map-adopt, tree-end}
use Rattle.pv_laws_states.proofs.ReferenceMembers.{live-found}
use Rattle.pv_laws_states.proofs.CallOutcomes.{at_call, by_answer}
use Rattle.pv_laws_states.proofs.Processes.{find-put_same, find-put_other}
use Rattle.pv_laws_states.proofs.CollectedStates.{files-collect, processes-collect, last-collect}
use Rattle.pv_laws_states.proofs.ValidStates.{sorted-put_number}
use Rattle.pv_laws_access.proofs.ChangedTrees.{entry-collect}
use Rattle.pv_laws_access.proofs.ProcessesAfterEnds as Put
use Rattle.pv_laws_access.specs.Ends.{heir, new_parent, record_left, IsEnded}

-- the record that should remain
abbrev claim : ProcessRecord → Option ProcessRecord
claim (live p) = Some (live p)
claim (ended_record zero status) = None
claim (ended_record (suc parent) status) = Some (ended_record (suc parent) status)

module _ (s y : State) (pid : ℕ) (p me : Process) (status : ℕ) (whole : IsValid s) (at : process_at s pid ≡ Some p)
    (same_tree : y.tree ≡ s.tree) (same_files : y.files ≡ s.files) (same_last : y.last_process ≡ s.last_process) (ascending : is_sorted nat_cmp y.processes ≡ true)
    (others : (k : ℕ) → k ≢ pid → find nat_cmp k y.processes ≡ find nat_cmp k s.processes) (parent : me.parent ≡ p.parent) where
  abbrev es : List (ℕ × ProcessRecord)
  es = Put.put_away y pid me status

  abbrev new : ℕ
  new = Put.heir y pid me status

  abbrev z : State
  z = end_process y pid me status

  order : is_sorted nat_cmp (mapped (adopted pid new) es) ≡ true
  order = sorted-mapped (adopted pid new) es ∙ sorted-put_number pid (ended_record me.parent status) y.processes ascending

  -- the record found after the end
  abbrev Preserved : ℕ → ProcessRecord → Type 0
  Preserved k r = find nat_cmp k z.processes ≡ claim (adopted pid new r)

  found-z : (k : ℕ) → find nat_cmp k z.processes ≡ find nat_cmp k (filter (Put.claimed y pid me status) (mapped (adopted pid new) es))
  unfolding end_process
  found-z k = ap (λ xs. find nat_cmp k (filter (Put.claimed y pid me status) xs)) (map-adopt pid new es)

  passes : (r : ProcessRecord) → Put.claimed y pid me status (0, r) ≡ true → claim r ≡ Some r
  passes (live q) is = refl
  passes (ended_record zero left) is = cc is
  passes (ended_record (suc above) left) is = refl

  fails : (r : ProcessRecord) → Put.claimed y pid me status (0, r) ≡ false → claim r ≡ None
  fails (live q) is = cc is
  fails (ended_record zero left) is = refl
  fails (ended_record (suc above) left) is = let bad : true ≡ false = sym (ap not (ne_eqb (suc above) 0 (λ same. cc same))) ∙ is in cc bad

  preserved : (k : ℕ) (r : ProcessRecord) → find nat_cmp k es ≡ Some r → Preserved k r
  preserved k r found = by (Put.claimed y pid me status (k, adopted pid new r)) refl
    where
      there : find nat_cmp k (mapped (adopted pid new) es) ≡ Some (adopted pid new r)
      there = mapped-found (adopted pid new) k es r found

      none : Put.claimed y pid me status (k, adopted pid new r) ≡ false → (o : Option ProcessRecord) → find nat_cmp k (filter (Put.claimed y pid me status) (mapped (adopted pid new) es)) ≡ o → o ≡ None
      none drops None is = refl
      none drops (Some q) is =
          let was = found-filtered (Put.claimed y pid me status) (mapped (adopted pid new) es) order k q is in
          let both : Some (adopted pid new r) ≡ Some q = sym there ∙ was.0 in
          let same : adopted pid new r ≡ q = cc both in
          let bad : false ≡ true = sym drops ∙ ap (λ (x : ProcessRecord). Put.claimed y pid me status (k, x)) same ∙ was.1 in cc bad

      by : (b : Bool) → Put.claimed y pid me status (k, adopted pid new r) ≡ b → Preserved k r
      by true keeps = found-z k ∙ filtered-found (Put.claimed y pid me status) (mapped (adopted pid new) es) k (adopted pid new r) there keeps ∙ sym (passes (adopted pid new r) keeps)
      by false drops = found-z k ∙ none drops (find nat_cmp k (filter (Put.claimed y pid me status) (mapped (adopted pid new) es))) refl ∙ sym (fails (adopted pid new r) drops)

  absent : (k : ℕ) → find nat_cmp k es ≡ None → find nat_cmp k z.processes ≡ None
  absent k none = found-z k ∙ by (find nat_cmp k (filter (Put.claimed y pid me status) (mapped (adopted pid new) es))) refl
    where
      by : (o : Option ProcessRecord) → find nat_cmp k (filter (Put.claimed y pid me status) (mapped (adopted pid new) es)) ≡ o → o ≡ None
      by None is = refl
      by (Some q) is =
          let preserved = found-filtered (Put.claimed y pid me status) (mapped (adopted pid new) es) order k q is in
          let was = found-mapped (adopted pid new) k es q preserved.0 in
          let both : None ≡ Some was.0 = sym none ∙ was.1 in cc both

  -- the adopter
  heirs-same : new ≡ heir s pid
  heirs-same =
      ⊎_elim
      (λ first.
      let one : find nat_cmp 1 es ≡ Some (ended_record me.parent status) = ap (λ k. find nat_cmp k es) (sym first) ∙ find-put_same pid (ended_record me.parent status) y.processes in
      ap (λ o. if is_some (live_process o) then 1 else 0) one ∙ sym (ap (λ b. if b then 0 else if is_some (process_at s 1) then 1 else 0) (eq-eqb pid 1 first)))
      (λ other.
      let one : find nat_cmp 1 es ≡ find nat_cmp 1 s.processes = find-put_other 1 pid (ended_record me.parent status) y.processes (λ same. other (sym same)) ∙ others 1 (λ same. other (sym same)) in
      ap (λ o. if is_some (live_process o) then 1 else 0) one ∙ sym (ap (λ b. if b then 0 else if is_some (process_at s 1) then 1 else 0) (ne_eqb pid 1 other)))
      (cases_eq pid 1)

  parents-same : (n : ℕ) → (if n == pid then new else n) ≡ new_parent s pid n
  parents-same n = ap (λ h. if n == pid then h else n) heirs-same

  claim-ended : (n left : ℕ) → claim (adopted pid new (ended_record n left)) ≡ record_left (new_parent s pid n) left
  claim-ended n left = by (n == pid) ∙ ap (λ k. record_left k left) (parents-same n)
    where
      zero-or : (k : ℕ) → claim (ended_record k left) ≡ record_left k left
      zero-or zero = refl
      zero-or (suc k) = refl

      by : (b : Bool) → claim (cond b (ended_record new left) (ended_record n left)) ≡ record_left (if b then new else n) left
      by true = zero-or new
      by false = zero-or n

  claim-live : (q : Process) → claim (adopted pid new (live q)) ≡ Some (live (record q { parent = new_parent s pid q.parent }))
  claim-live q = by (q.parent == pid) ∙ ap (λ k. Some (live (record q { parent = k }))) (parents-same q.parent)
    where
      by : (b : Bool) → claim (cond b (live (record q { parent = new })) (live q)) ≡ Some (live (record q { parent = if b then new else q.parent }))
      by true = refl
      by false = refl

  abbrev after : State
  after = collect z

  found-after : (k : ℕ) → find nat_cmp k after.processes ≡ find nat_cmp k z.processes
  found-after k = ap (find nat_cmp k) (processes-collect z)

  files-end : z.files ≡ y.files
  unfolding end_process
  files-end = refl

  last-end : z.last_process ≡ y.last_process
  unfolding end_process
  last-end = refl

  pub ended-so : IsEnded s after pid p status
  ended-so = record {
    itself =
        found-after pid ∙ preserved pid (ended_record me.parent status) (find-put_same pid (ended_record me.parent status) y.processes) ∙ claim-ended me.parent status
        ∙ ap (λ n. record_left (new_parent s pid n) status) parent;
    live = λ k q apart there.
        ap live_process
        (found-after k ∙ preserved k (live q) (find-put_other k pid (ended_record me.parent status) y.processes apart ∙ others k apart ∙ live-found s k q there) ∙ claim-live q);
    ended = λ k above left apart there.
        found-after k ∙ preserved k (ended_record above left) (find-put_other k pid (ended_record me.parent status) y.processes apart ∙ others k apart ∙ there) ∙ claim-ended above left;
    none_else = λ k apart none. found-after k ∙ absent k (find-put_other k pid (ended_record me.parent status) y.processes apart ∙ others k apart ∙ none);
    entries = λ d name.
        entry-collect z (subst IsTree (sym (tree-end y pid me status ∙ same_tree)) whole.tree) d name ∙ ap (λ (u : Tree). find_entry u d name) (tree-end y pid me status ∙ same_tree);
    files = λ k file there.
        ap (λ fs. at_number fs k) (sym (files-end ∙ same_files)) ∙ (keep-some (among (used z)) z.files k file (ap (λ fs. at_number fs k) (sym (files-collect z)) ∙ there)).1;
    last_process = last-collect z ∙ last-end ∙ same_last;
  }

-- ---- the laws

module _ (program_of : Bytes → Option Program) (s : State) (pid : ℕ) (p : Process) (whole : IsValid s) (at : process_at s pid ≡ Some p) where
  one : (me : Process) → process_at s pid ≡ Some me → me ≡ p
  one me found = let both : Some me ≡ Some p = sym found ∙ at in cc both

  -- at a call, the other processes are unchanged
  at-call : (me : Process) → process_at s pid ≡ Some me → (status : ℕ) → IsEnded s (collect (end_process (at_call s pid me) pid (at_next_line me) status)) pid p status
  at-call me found status =
      ended-so s (at_call s pid me) pid p (at_next_line me) status whole at refl refl refl (sorted-put_number pid (live (at_next_line me)) s.processes whole.processes.ascending)
      (λ k apart. find-put_other k pid (live (at_next_line me)) s.processes apart) (ap (λ (x : Process). x.parent) (one me found))

  before-call : (me : Process) → process_at s pid ≡ Some me → (status : ℕ) → IsEnded s (collect (end_process s pid (at_next_line me) status)) pid p status
  before-call me found status =
      ended-so s s pid p (at_next_line me) status whole at refl refl refl whole.processes.ascending (λ k apart. refl) (ap (λ (x : Process). x.parent) (one me found))

  exit-needs : (code : ℤ) (me : Process) (a : Promise) → missing_promise me.promises (needs (Exit code)) ≡ Some a → ⊥
  unfolding needs
  exit-needs code me a missing = cc missing

  exit-ends : (code : ℤ) → IsEnded s (answer program_of s pid (Exit code)).after pid p (exit_status code)
  unfolding effect
  exit-ends code =
      by_answer (λ a. IsEnded s a.after pid p (exit_status code)) program_of s pid (Exit code)
      (λ gone. let both : None ≡ Some p = sym gone ∙ at in cc both)
      (λ me found met. at-call me found (exit_status code))
      (λ me a found missing lenient. absurd (exit-needs code me a missing))
      (λ me a found missing lenient. absurd (exit-needs code me a missing))

  pub exits-leave : (code : ℤ) → next p ≡ calls_for (Exit code) → IsEnded s (step program_of s pid).after pid p (exit_status code)
  exits-leave code is =
      subst (λ (w : Stepped). IsEnded s w.after pid p (exit_status code)) (sym (Put.step-is program_of s pid p at ∙ ap (step_by program_of s pid p) is)) (exit-ends code)

  kill-ends : (call : Call) (a : Promise) → (answer program_of s pid call).outcome ≡ Killed a → IsEnded s (answer program_of s pid call).after pid p 6
  kill-ends call a =
      by_answer (λ x. x.outcome ≡ Killed a → IsEnded s x.after pid p 6) program_of s pid call
      (λ gone is. cc is)
      (λ me found met is. absurd (Put.not-killed s (at_call s pid me) pid (at_next_line me) (effect program_of (at_call s pid me) pid (at_next_line me) call) a is))
      (λ me b found missing lenient is. cc is)
      (λ me b found missing lenient is. before-call me found 6)

  pub kills-leave : (a : Promise) → (step program_of s pid).outcome ≡ Killed a → IsEnded s (step program_of s pid).after pid p 6
  kills-leave a = by (next p) refl
    where
      to : (n : Next) → next p ≡ n → ((step_by program_of s pid p n).outcome ≡ Killed a → IsEnded s (step_by program_of s pid p n).after pid p 6)
          → (step program_of s pid).outcome ≡ Killed a → IsEnded s (step program_of s pid).after pid p 6
      to n is = subst (λ (w : Stepped). w.outcome ≡ Killed a → IsEnded s w.after pid p 6) (sym (Put.step-is program_of s pid p at ∙ ap (step_by program_of s pid p) is))

      by : (n : Next) → next p ≡ n → (step program_of s pid).outcome ≡ Killed a → IsEnded s (step program_of s pid).after pid p 6
      by (inside q) is = to (inside q) is (λ dies. cc dies)
      by (calls_for call) is = to (calls_for call) is (kill-ends call a)
