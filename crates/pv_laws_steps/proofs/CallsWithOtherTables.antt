-- Calls on descriptors, with another table and another lock of the caller.
use Rattle.std.proofs.Common.{◌≡◌, ℕ, zero, suc, ℤ, ◌-◌, pos, negsuc, Bool, true, false, if◌then◌else◌, List, [], ◌∷◌, Option, None, Some, option_map, slice_get, refl, ap, sym, subst, ◌∙◌}
use Rattle.std.specs.FinMap.Entries.{find, put}
use Rattle.std.specs.Ordering.{nat_cmp}
use Rattle.pv_model.specs.declared.call.Call.{Call}
use Rattle.pv_model.specs.declared.call.Call.TheVariants as TheCall
use Rattle.pv_model.specs.declared.errno.Errno.TheVariants.{ENOSYS}
use Rattle.pv_model.specs.declared.instruction.Instruction.{Instruction}
use Rattle.pv_model.specs.declared.instruction.Instruction.TheVariants as Line
use Rattle.pv_model.specs.declared.outcome.Cause.TheVariants.{Promise as ByPromise}
use Rattle.pv_model.specs.declared.outcome.Outcome.TheVariants.{Killed}
use Rattle.pv_model.specs.declared.promise.Promise.{Promise}
use Rattle.pv_model.specs.Machine.{Answered, answer, answer_of, answer_where, answer_by_attempt, at_next_line, with_front, update_live, update, effect, Attempt, done, refused, Bytes, write, after_write, list_name, with_result, end_process, Effect, Reply, returns, returns_bytes, ends, waits, errno_number, collect, held_by_table, needs, Numbered, calls_for, perform, next_by, next, missing_promise, is_lenient, OpenFile, Program, Process, ProcessRecord, live, ended_record, State, live_process, process_at, with_process, step, step_by, line, buffer_of, Tree, Table}
use Rattle.pv_model.specs.Answer.{answer_by_reply, answer_without_promise}
use Rattle.pv_laws_states.specs.States.{IsValid}
use Rattle.pv_laws_states.proofs.ReferenceMembers.{live-found, found-live, find_number_cases}
use Rattle.pv_laws_states.proofs.CallOutcomes.{at_call}
use Rattle.pv_laws_runs.proofs.OfLawsAccess.ProcessesAfterEnds.{step-is}
use Rattle.pv_laws_steps.specs.Beside.{change_live, HasSameReferences, with_change, StepsWithOtherProcess}
use Rattle.pv_laws_steps.specs.Tableless.{is_by_descriptor, relabel}
use Rattle.pv_laws_steps.proofs.ChangedProcess.{KeepsParent, changed, change_of, change-itself, find-changed, put-itself, Fits, collect-changed, fits-put, fits-end}
use Rattle.pv_laws_steps.proofs.ChangedPairs.{AreChangedPair, moved, FitsIn, ChangedPair, bind-in_both, then-in_both, cond-in_both, done-in_both, refused-in_both, cond-state, AnsweredPair}
use Rattle.pv_laws_steps.proofs.CallsOfOthers.{changes, AreFit, room-changed}
use Rattle.pv_laws_steps.proofs.StepsOfOthers.{fits-found}
use Rattle.pv_laws_steps.proofs.ReportedParts.{lines-reported}

module _ (k : ℕ) (table : Option Table) (locked : Bool) where
  abbrev f : Process → Process
  f = relabel table locked

  keeps : KeepsParent f
  keeps = record { same = λ p. refl; whoever = λ p n. refl }

  -- a table with the same references
  abbrev Holds : Process → Type 0
  Holds p = held_by_table table ≡ held_by_table p.table

  appears : (p : Process) → Holds p → HasSameReferences p (f p)
  appears p same = record { directory = refl; descriptors = refl; held = same }

  -- ---- system calls

  module _ (s : State) (me : Process) (fit : Fits k f s.processes) (same : Holds me) where
    abbrev u : State
    u = with_change s k f

    abbrev B : Attempt Effect → Attempt Effect → Type 0
    B = ChangedPair (changes k f) (AreFit k f)

    tree-relabelled : (t : Tree) (fs : Numbered OpenFile) → AreChangedPair (changes k f) (AreFit k f) (record s { tree = t; files = fs }) (record u { tree = t; files = fs })
    tree-relabelled t fs = record { same = refl; fit = fit }

    own-relabelled : (t : Tree) (fs : Numbered OpenFile) (q : Process) → q.table ≡ me.table
        → AreChangedPair (changes k f) (AreFit k f) (record s { tree = t; files = fs; processes = put nat_cmp k (live q) s.processes }) (record u { tree = t; files = fs; processes = put nat_cmp k (live (f q)) (changed k f s.processes) })
    own-relabelled t fs q mine = record {
      same = ap (λ ps. record s { tree = t; files = fs; processes = ps }) (put-itself k f q s.processes);
      fit = fits-put k f k (live q) s.processes (λ p is here. let eq : q ≡ p = cc is in subst (λ (x : Process). HasSameReferences x (f x)) eq (appears q (same ∙ ap held_by_table (sym mine)))) fit;
    }

    ruleset parts = (bind-in_both, then-in_both, cond-in_both, done-in_both, refused-in_both, room-changed, tree-relabelled, own-relabelled, cond-state, refl)

    written : (j : ℕ) (file : OpenFile) (count : ℕ) → AreChangedPair (changes k f) (AreFit k f) (after_write s k me j file count) (after_write u k (f me) j file count)
    written j file zero = search parts depth 20
    written j file (suc n) = search parts depth 20

    write-relabelled : (d n : ℤ) → B (write s k me d n) (write u k (f me) d n)
    write-relabelled d n = search (bind-in_both, then-in_both, room-changed, written) depth 20

    listed : (j : ℕ) (file : OpenFile) (o : Option Bytes) → B (list_name s k me j file o) (list_name u k (f me) j file o)
    listed j file None = search parts depth 20
    listed j file (Some name) = search parts depth 20

    rows-relabelled : (program_of : Bytes → Option Program) (call : Call) → is_by_descriptor call ≡ true → B (effect program_of s k me call) (effect program_of u k (f me) call)
    unfolding effect
    rows-relabelled program_of (TheCall.Close d) is = search parts depth 20
    rows-relabelled program_of (TheCall.Dup d) is = search parts depth 20
    rows-relabelled program_of (TheCall.Dup2 d e) is = search parts depth 20
    rows-relabelled program_of (TheCall.Read d n) is = search parts depth 20
    rows-relabelled program_of (TheCall.Write d n) is = write-relabelled d n
    rows-relabelled program_of (TheCall.Lseek d by whence) is = search parts depth 20
    rows-relabelled program_of (TheCall.Fstat d) is = search parts depth 20
    rows-relabelled program_of (TheCall.Ftruncate d n) is = search parts depth 20
    rows-relabelled program_of (TheCall.Getdents d) is = search (parts, listed) depth 20
    rows-relabelled program_of (TheCall.Fchdir d) is = search parts depth 20
    rows-relabelled program_of call is = cc is

  -- ---- answers

  process-itself : (s : State) → process_at (with_change s k f) k ≡ option_map f (process_at s k)
  process-itself s = ap live_process (find-changed k f k s.processes) ∙ by (find nat_cmp k s.processes)
    where
      of : (r : ProcessRecord) → live_process (Some (change_live f r)) ≡ option_map f (live_process (Some r))
      of (live p) = refl
      of (ended_record parent status) = refl

      by : (o : Option ProcessRecord) → live_process (option_map (change_of k f k) o) ≡ option_map f (live_process o)
      by None = refl
      by (Some r) = ap (λ x. live_process (Some x)) (change-itself k f r) ∙ of r

  fits-at : (es : List (ℕ × ProcessRecord)) (q : Process) → Fits k f es → find nat_cmp k es ≡ Some (live q) → HasSameReferences q (f q)
  fits-at [] q fit found = cc found
  fits-at ((j, live p) ∷ es) q fit found =
      find_number_cases (HasSameReferences q (f q)) k (live q) (j, live p) es found
      (λ same value. let eq : p ≡ q = cc value in subst (λ (x : Process). HasSameReferences x (f x)) eq (fit.0 (sym same)))
      (λ there. fits-at es q fit.1 there)
  fits-at ((j, ended_record parent status) ∷ es) q fit found =
      find_number_cases (HasSameReferences q (f q)) k (live q) (j, ended_record parent status) es found (λ same value. cc value) (λ there. fits-at es q fit there)

  -- a change that keeps the table and the lock of a process
  record Reports (g : Process → Process) : Type 0 where
    apart : (q : Process) → g (f q) ≡ f (g q)
    table_stays : (q : Process) → (g q).table ≡ q.table

  update-itself : (x : State) (g : Process → Process) → Reports g → update (with_change x k f) k g ≡ with_change (update x k g) k f
  update-itself x g reports = ap (update_live (with_change x k f) k g) (process-itself x) ∙ by (process_at x k)
    where
      by : (o : Option Process) → update_live (with_change x k f) k g (option_map f o) ≡ with_change (update_live x k g o) k f
      by None = refl
      by (Some q) = ap (λ r. with_process (with_change x k f) k r) (reports.apart q) ∙ ap (λ ps. record x { processes = ps }) (put-itself k f (g q) x.processes)

  fits-update : (x : State) (g : Process → Process) → Reports g → Fits k f x.processes → Fits k f (update x k g).processes
  fits-update x g reports fit = by (process_at x k) refl
    where
      by : (o : Option Process) → process_at x k ≡ o → Fits k f (update_live x k g o).processes
      by None at = fit
      by (Some q) at =
          fits-put k f k (live (g q)) x.processes (λ p is here.
          let eq : g q ≡ p = cc is in
          let old = fits-at x.processes q fit (live-found x k q at) in
          subst (λ (y : Process). HasSameReferences y (f y)) eq (appears (g q) (old.held ∙ ap held_by_table (sym (reports.table_stays q))))) fit

  collected-update : (x : State) (g : Process → Process) → Reports g → Fits k f x.processes → collect (update (with_change x k f) k g) ≡ with_change (collect (update x k g)) k f
  collected-update x g reports fit = ap collect (update-itself x g reports) ∙ collect-changed k f (update x k g) (fits-update x g reports fit)

  -- the end of the process itself, after which its table is gone
  collected-end : (x : State) (me : Process) (status : ℕ) → Fits k f x.processes → collect (end_process (with_change x k f) k (f me) status) ≡ with_change (collect (end_process x k me status)) k f
  collected-end x me status fit = ap collect (end-itself x me status) ∙ collect-changed k f (end_process x k me status) (fits-end k f keeps x k me status fit)
    where
      end-itself : (x : State) (me : Process) (status : ℕ) → end_process (with_change x k f) k (f me) status ≡ with_change (end_process x k me status) k f
      end-itself x me status = Rattle.pv_laws_steps.proofs.ChangedProcess.end-itself k f keeps x me status

  reports-value : (n : ℕ) → Reports (λ p. with_result p (pos n) 0)
  reports-value n = record { apart = λ q. refl; table_stays = λ q. refl }

  reports-bytes : (n : ℕ) (bytes : Bytes) → Reports (λ p. with_front bytes (with_result p (pos n) 0))
  reports-bytes n bytes = record { apart = λ q. refl; table_stays = λ q. refl }

  reply-relabelled : (before s : State) (me : Process) (walks : ℕ) (r : Reply) (x : State) → Fits k f x.processes
      → AnsweredPair (changes k f) (answer_by_reply before s k me walks r x) (answer_by_reply (with_change before k f) (with_change s k f) k (f me) walks r (with_change x k f))
  reply-relabelled before s me walks (returns n) x fit = record { after = collected-update x (λ p. with_result p (pos n) 0) (reports-value n) fit; outcome = refl; walks = refl }
  reply-relabelled before s me walks (returns_bytes n bytes) x fit = record { after = collected-update x (λ p. with_front bytes (with_result p (pos n) 0)) (reports-bytes n bytes) fit; outcome = refl; walks = refl }
  reply-relabelled before s me walks (ends status) x fit = record { after = collected-end x me status fit; outcome = refl; walks = refl }
  reply-relabelled before s me walks waits x fit = record { after = refl; outcome = refl; walks = refl }

  attempt-relabelled : (before s : State) (me : Process) (a : Attempt Effect) → FitsIn (changes k f) (AreFit k f) a
      → AnsweredPair (changes k f) (answer_by_attempt before s k me a) (answer_by_attempt (with_change before k f) (with_change s k f) k (f me) (moved (changes k f) (AreFit k f) a))
  attempt-relabelled before s me (done walks (x, r)) fit = reply-relabelled before s me walks r x fit
  attempt-relabelled before s me (refused walks e c) fit =
      record { after = update-itself s (λ p. with_result p (negsuc 0) (errno_number e)) (record { apart = λ q. refl; table_stays = λ q. refl }); outcome = refl; walks = refl }

  module _ (program_of : Bytes → Option Program) (s : State) (p : Process) (call : Call) (fit : Fits k f s.processes) (same : Holds p) (at : process_at s k ≡ Some p) (is : is_by_descriptor call ≡ true) where
    abbrev v : State
    v = with_change s k f

    abbrev x : State
    x = at_call s k p

    abbrev now : Process
    now = at_next_line p

    x-relabelled : at_call v k (f p) ≡ with_change x k f
    x-relabelled = ap (λ ps. record s { processes = ps }) (put-itself k f now s.processes)

    x-fit : Fits k f x.processes
    x-fit = fits-put k f k (live now) s.processes (λ q live_is here. let eq : now ≡ q = cc live_is in subst (λ (y : Process). HasSameReferences y (f y)) eq (appears now same)) fit

    abbrev Both : Answered → Answered → Type 0
    Both = AnsweredPair (changes k f)

    does-relabelled : Both (answer_by_attempt s x k now (effect program_of x k now call)) (answer_by_attempt v (at_call v k (f p)) k (f now) (effect program_of (at_call v k (f p)) k (f now) call))
    does-relabelled =
        let rows = rows-relabelled x now x-fit same program_of call is in
        subst (λ y. Both (answer_by_attempt s x k now (effect program_of x k now call)) (answer_by_attempt v y k (f now) (effect program_of y k (f now) call))) (sym x-relabelled)
        (subst (λ a. Both (answer_by_attempt s x k now (effect program_of x k now call)) (answer_by_attempt v (with_change x k f) k (f now) a)) (sym rows.same)
        (attempt-relabelled s x now (effect program_of x k now call) rows.fit))

    missing-relabelled : (a : Promise) → Both (answer_without_promise s x k now a) (answer_without_promise v (at_call v k (f p)) k (f now) a)
    missing-relabelled a = by (is_lenient p.promises)
      where
        reported : Both (answer_by_attempt s x k now (refused 0 ENOSYS (ByPromise a))) (answer_by_attempt v (at_call v k (f p)) k (f now) (refused 0 ENOSYS (ByPromise a)))
        reported =
            subst (λ y. Both (answer_by_attempt s x k now (refused 0 ENOSYS (ByPromise a))) (answer_by_attempt v y k (f now) (refused 0 ENOSYS (ByPromise a)))) (sym x-relabelled)
            (attempt-relabelled s x now (refused 0 ENOSYS (ByPromise a)) tt)

        by : (b : Bool)
            → Both (if b then answer_by_attempt s x k now (refused 0 ENOSYS (ByPromise a)) else record { after = collect (end_process s k now 6); outcome = Killed a; walks = 0 })
            (if b then answer_by_attempt v (at_call v k (f p)) k (f now) (refused 0 ENOSYS (ByPromise a)) else record { after = collect (end_process v k (f now) 6); outcome = Killed a; walks = 0 })
        by true = reported
        by false = record { after = collected-end s now 6 fit; outcome = refl; walks = refl }

    where-relabelled : (o : Option Promise) → Both (answer_where program_of s x k now call o) (answer_where program_of v (at_call v k (f p)) k (f now) call o)
    where-relabelled None = does-relabelled
    where-relabelled (Some a) = missing-relabelled a

    there : process_at v k ≡ Some (f p)
    there = process-itself s ∙ ap (option_map f) at

    pub answer-relabelled : Both (answer program_of s k call) (answer program_of v k call)
    unfolding answer
    answer-relabelled =
        subst (λ o. Both (answer_of program_of s k call o) (answer_of program_of v k call (process_at v k))) (sym at)
        (subst (λ o. Both (answer_of program_of s k call (Some p)) (answer_of program_of v k call o)) (sym there) (where-relabelled (missing_promise p.promises (needs call))))

  -- ---- steps

  same-call : (p : Process) (call : Call) (i : Instruction) → perform p i ≡ calls_for call → perform (f p) i ≡ calls_for call
  unfolding perform
  same-call p call (Line.Set r n) is = cc is
  same-call p call (Line.Add r n) is = cc is
  same-call p call (Line.Put bytes) is = cc is
  same-call p call (Line.Peek r j) is = cc is
  same-call p call (Line.Jump line) is = cc is
  same-call p call (Line.JumpIfZero r line) is = cc is
  same-call p call (Line.JumpIfNotZero r line) is = cc is
  same-call p call (Line.JumpIfNegative r line) is = cc is
  same-call p call i is = is

  next-call : (p : Process) (call : Call) → next p ≡ calls_for call → next (f p) ≡ calls_for call
  next-call p call is = by (slice_get p.program (p.line - 1)) is
    where
      by : (o : Option Instruction) → next_by p o ≡ calls_for call → next_by (f p) o ≡ calls_for call
      by None is = is
      by (Some i) is = same-call p call i is

  module _ (program_of : Bytes → Option Program) (s : State) (p : Process) (call : Call) (whole : IsValid s) (at : process_at s k ≡ Some p) (comes : next p ≡ calls_for call) (is : is_by_descriptor call ≡ true) (same : Holds p) where
    fit : Fits k f s.processes
    fit =
        fits-found k f s.processes whole.processes.ascending (λ y found.
        let both : Some y ≡ Some p = sym (found-live s k y found) ∙ at in
        let eq : y ≡ p = cc both in
        subst (λ (z : Process). HasSameReferences z (f z)) (sym eq) (appears p same))

    both : AnsweredPair (changes k f) (answer program_of s k call) (answer program_of (with_change s k f) k call)
    both = answer-relabelled program_of s p call fit same at is

    after-there : (y z : State) → z ≡ with_change y k f → buffer_of (process_at z k) ≡ buffer_of (process_at y k)
    after-there y z is = ap (λ x. buffer_of (process_at x k)) is ∙ ap buffer_of (process-itself y) ∙ by (process_at y k)
      where
        by : (o : Option Process) → buffer_of (option_map f o) ≡ buffer_of o
        by None = refl
        by (Some q) = refl

    pub descriptors-ask-no_table : StepsWithOtherProcess k f (step program_of s k) (step program_of (with_change s k f) k)
    descriptors-ask-no_table =
        let one : step program_of s k ≡ step_by program_of s k p (calls_for call) = step-is program_of s k p at ∙ ap (step_by program_of s k p) comes in
        let two : step program_of (with_change s k f) k ≡ step_by program_of (with_change s k f) k (f p) (calls_for call) =
        step-is program_of (with_change s k f) k (f p) (process-itself s ∙ ap (option_map f) at) ∙ ap (step_by program_of (with_change s k f) k (f p)) (next-call p call comes) in
        subst (λ a. StepsWithOtherProcess k f a (step program_of (with_change s k f) k)) (sym one)
        (subst (λ b. StepsWithOtherProcess k f (step_by program_of s k p (calls_for call)) b) (sym two) (record {
          outcome = both.outcome;
          lines = lines-reported k p (f p) call (answer program_of s k call) (answer program_of (with_change s k f) k call) refl both.outcome both.walks
              (after-there (answer program_of s k call).after (answer program_of (with_change s k f) k call).after both.after);
          after = both.after;
        }))
