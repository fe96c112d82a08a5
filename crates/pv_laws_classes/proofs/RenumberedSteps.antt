-- Steps and runs from two states that are related by a renumbering of open files.
use Rattle.std.proofs.Common.{◌≡◌, ℕ, ◌-◌, not, Bool, true, false, if◌then◌else◌, List, [], ◌∷◌, ◌++◌, slice_get, Option, None, Some, is_some, option_map, refl, ap, ap₂, sym, subst, ◌∙◌}
use Rattle.pv_model.specs.declared.call.Call.{Call}
use Rattle.pv_model.specs.declared.errno.Errno.TheVariants.{ENOSYS}
use Rattle.pv_model.specs.declared.instruction.Instruction.{Instruction}
use Rattle.pv_model.specs.declared.instruction.Instruction.TheVariants as Line
use Rattle.pv_model.specs.declared.outcome.Cause.TheVariants.{Promise as ByPromise}
use Rattle.pv_model.specs.declared.outcome.Outcome.TheVariants.{Killed}
use Rattle.pv_model.specs.declared.promise.Promise.{Promise}
use Rattle.pv_model.specs.Machine.{answer, answer_of, answer_where, answer_by_attempt, at_next_line, effect, refused, Bytes, end_process, collect, needs, Numbered, at_number, Next, inside, calls_for, jump_if, perform, next_by, next, missing_promise, is_lenient, OpenFile, Program, Process, State, process_at, Stepped, Run, step, step_of, step_by, run, Line as TraceLine, buffer_of}
use Rattle.pv_model.specs.Answer.{answer_without_promise}
use Rattle.pv_model.specs.Program.{is_zero, is_negative, register}
use Rattle.pv_laws_states.specs.States.{IsValid}
use Rattle.pv_laws_states.proofs.ReferenceMembers.{used-among}
use Rattle.pv_laws_states.proofs.CallOutcomes.{at_call}
use Rattle.pv_laws_steps.proofs.ReportedParts.{lines-reported}
use Rattle.pv_laws_classes.specs.Renumbering.{renumbered_process, Renumbered, RenumberedStepsAreEqual, RenumberedRunsAreEqual}
use Rattle.pv_laws_states.proofs.RelatedAttempts.{both-refused}
use Rattle.pv_laws_classes.proofs.RenumberedAttempts.{AreAnswered, attempt-both}
use Rattle.pv_laws_classes.proofs.RenumberedFiles.{some-value}
use Rattle.pv_laws_classes.proofs.RenumberedLists.{Uses, uses-of}
use Rattle.pv_laws_classes.proofs.RenumberedStates.{IsPresent, renumbered, Fits, AreRelated, related, by-related, process-renumbered, fits-put, with-renumbered, collect-related, end-related, process-uses}
use Rattle.pv_laws_classes.proofs.RenumberedCalls.{calls-both}

-- ---- the next step of a process

module _ (f : ℕ → ℕ) where
  abbrev pub renumbered_next : Next → Next
  renumbered_next (inside q) = inside (renumbered_process f q)
  renumbered_next (calls_for call) = calls_for call

  jump-renumbered : (b : Bool) (p : Process) (line : ℕ) → jump_if b (renumbered_process f p) line ≡ renumbered_process f (jump_if b p line)
  jump-renumbered true p line = refl
  jump-renumbered false p line = refl

  perform-renumbered : (p : Process) (i : Instruction) → perform (renumbered_process f p) i ≡ renumbered_next (perform p i)
  unfolding perform
  perform-renumbered p (Line.JumpIfZero r line) = ap inside (jump-renumbered (is_zero (register p r)) p line)
  perform-renumbered p (Line.JumpIfNotZero r line) = ap inside (jump-renumbered (not (is_zero (register p r))) p line)
  perform-renumbered p (Line.JumpIfNegative r line) = ap inside (jump-renumbered (is_negative (register p r)) p line)
  perform-renumbered p i = refl

  pub next-renumbered : (p : Process) → next (renumbered_process f p) ≡ renumbered_next (next p)
  next-renumbered p = by (slice_get p.program (p.line - 1))
    where
      by : (o : Option Instruction) → next_by (renumbered_process f p) o ≡ renumbered_next (next_by p o)
      by None = refl
      by (Some i) = perform-renumbered p i

abbrev KeepsDescriptors : Process → Next → Type 0
KeepsDescriptors p (inside q) = q.descriptors ≡ p.descriptors
KeepsDescriptors p (calls_for call) = Unit {0}

jump-keeps : (b : Bool) (p : Process) (line : ℕ) → (jump_if b p line).descriptors ≡ p.descriptors
jump-keeps true p line = refl
jump-keeps false p line = refl

perform-keeps : (p : Process) (i : Instruction) → KeepsDescriptors p (perform p i)
unfolding perform
perform-keeps p (Line.Set r n) = refl
perform-keeps p (Line.Add r n) = refl
perform-keeps p (Line.Put bytes) = refl
perform-keeps p (Line.Peek r k) = refl
perform-keeps p (Line.Jump line) = refl
perform-keeps p (Line.JumpIfZero r line) = jump-keeps (is_zero (register p r)) p line
perform-keeps p (Line.JumpIfNotZero r line) = jump-keeps (not (is_zero (register p r))) p line
perform-keeps p (Line.JumpIfNegative r line) = jump-keeps (is_negative (register p r)) p line
perform-keeps p i = tt

next-keeps : (p : Process) → KeepsDescriptors p (next p)
next-keeps p = by (slice_get p.program (p.line - 1))
  where
    by : (o : Option Instruction) → KeepsDescriptors p (next_by p o)
    by None = tt
    by (Some i) = perform-keeps p i

-- ---- steps

-- two steps are the same, and lead to related states
record AreStepped (a b : Stepped) : Type 0 where
  outcome : b.outcome ≡ a.outcome
  lines : b.lines ≡ a.lines
  after : AreRelated a.after b.after

buffer-related : (x y : State) (pid : ℕ) → AreRelated x y → buffer_of (process_at y pid) ≡ buffer_of (process_at x pid)
buffer-related x y pid is = ap (λ z. buffer_of (process_at z pid)) is.same ∙ ap buffer_of (process-renumbered is.f is.files x pid) ∙ by (process_at x pid)
  where
    by : (o : Option Process) → buffer_of (option_map (renumbered_process is.f) o) ≡ buffer_of o
    by None = refl
    by (Some p) = refl

module _ (program_of : Bytes → Option Program) (f : ℕ → ℕ) (gs : Numbered OpenFile) (s : State) (pid : ℕ) (fits : Fits f gs s) where
  abbrev t : State
  t = renumbered f gs s

  module _ (p : Process) (at : process_at s pid ≡ Some p) where
    abbrev r : Process
    r = renumbered_process f p

    abbrev now : Process
    now = at_next_line p

    abbrev x : State
    x = at_call s pid p

    mine : Uses (IsPresent s.files) p.descriptors
    mine = process-uses s pid p (IsPresent s.files) fits.opens at

    x-same : at_call t pid r ≡ renumbered f gs x
    x-same = with-renumbered f gs s pid now

    x-fits : Fits f gs x
    x-fits = fits-put f gs s pid now fits mine

    module _ (call : Call) where
      does-both : AreAnswered (answer_by_attempt s x pid now (effect program_of x pid now call)) (answer_by_attempt t (at_call t pid r) pid (renumbered_process f now) (effect program_of (at_call t pid r) pid (renumbered_process f now) call))
      does-both =
          subst (λ z. AreAnswered (answer_by_attempt s x pid now (effect program_of x pid now call)) (answer_by_attempt t z pid (renumbered_process f now) (effect program_of z pid (renumbered_process f now) call))) (sym x-same)
          (attempt-both pid f now s t x (renumbered f gs x) (related f gs s fits) (related f gs x x-fits) _ _ (calls-both f gs x pid now x-fits mine program_of call))

      missing-both : (a : Promise) → AreAnswered (answer_without_promise s x pid now a) (answer_without_promise t (at_call t pid r) pid (renumbered_process f now) a)
      missing-both a = by (is_lenient p.promises)
        where
          reported : AreAnswered (answer_by_attempt s x pid now (refused 0 ENOSYS (ByPromise a))) (answer_by_attempt t (at_call t pid r) pid (renumbered_process f now) (refused 0 ENOSYS (ByPromise a)))
          reported =
              subst (λ z. AreAnswered (answer_by_attempt s x pid now (refused 0 ENOSYS (ByPromise a))) (answer_by_attempt t z pid (renumbered_process f now) (refused 0 ENOSYS (ByPromise a)))) (sym x-same)
              (attempt-both pid f now s t x (renumbered f gs x) (related f gs s fits) (related f gs x x-fits) _ _ (both-refused AreRelated 0 ENOSYS (ByPromise a)))

          by : (b : Bool)
              → AreAnswered (if b then answer_by_attempt s x pid now (refused 0 ENOSYS (ByPromise a)) else record { after = collect (end_process s pid now 6); outcome = Killed a; walks = 0 })
              (if b then answer_by_attempt t (at_call t pid r) pid (renumbered_process f now) (refused 0 ENOSYS (ByPromise a)) else record { after = collect (end_process t pid (renumbered_process f now) 6); outcome = Killed a; walks = 0 })
          by true = reported
          by false = record {
            after = collect-related (end_process s pid now 6) (end_process t pid (renumbered_process f now) 6) (end-related s t pid f now 6 (related f gs s fits));
            outcome = refl;
            walks = refl;
          }

      where-both : (o : Option Promise) → AreAnswered (answer_where program_of s x pid now call o) (answer_where program_of t (at_call t pid r) pid (renumbered_process f now) call o)
      where-both None = does-both
      where-both (Some a) = missing-both a

      there : process_at t pid ≡ Some r
      there = process-renumbered f gs s pid ∙ ap (option_map (renumbered_process f)) at

      pub answer-both : AreAnswered (answer program_of s pid call) (answer program_of t pid call)
      unfolding answer
      answer-both =
          subst (λ o. AreAnswered (answer_of program_of s pid call o) (answer_of program_of t pid call (process_at t pid))) (sym at)
          (subst (λ o. AreAnswered (answer_of program_of s pid call (Some p)) (answer_of program_of t pid call o)) (sym there) (where-both (missing_promise p.promises (needs call))))

    by-next : (n : Next) → KeepsDescriptors p n → AreStepped (step_by program_of s pid p n) (step_by program_of t pid r (renumbered_next f n))
    by-next (inside q) keeps = record {
      outcome = refl;
      lines = refl;
      after = record { f = f; files = gs; same = with-renumbered f gs s pid q; fits = fits-put f gs s pid q fits (subst (Uses (IsPresent s.files)) (sym keeps) mine) };
    }
    by-next (calls_for call) keeps =
        let both = answer-both call in
        record {
          outcome = both.outcome;
          lines = lines-reported pid p r call (answer program_of s pid call) (answer program_of t pid call) refl both.outcome both.walks
              (buffer-related (answer program_of s pid call).after (answer program_of t pid call).after pid both.after);
          after = both.after;
        }

  step-both : AreStepped (step program_of s pid) (step program_of t pid)
  unfolding step
  step-both = subst (λ o. AreStepped (step_of program_of s pid (process_at s pid)) (step_of program_of t pid o)) (sym (process-renumbered f gs s pid)) (by (process_at s pid) refl)
    where
      by : (o : Option Process) → process_at s pid ≡ o → AreStepped (step_of program_of s pid o) (step_of program_of t pid (option_map (renumbered_process f) o))
      by None gone = record { outcome = refl; lines = refl; after = related f gs s fits }
      by (Some p) at =
          subst (λ n. AreStepped (step_by program_of s pid p (next p)) (step_by program_of t pid (renumbered_process f p) n)) (sym (next-renumbered f p)) (by-next p at (next p) (next-keeps p))

step-related : (program_of : Bytes → Option Program) (s t : State) (pid : ℕ) → AreRelated s t → AreStepped (step program_of s pid) (step program_of t pid)
step-related program_of s t pid is = by-related (λ s t. AreStepped (step program_of s pid) (step program_of t pid)) s t is (λ f gs fits. step-both program_of f gs s pid fits)

-- ---- runs

record AreRuns (a b : Run) : Type 0 where
  lines : b.lines ≡ a.lines
  final : AreRelated a.final b.final

run-related : (program_of : Bytes → Option Program) (pids : List ℕ) (s t : State) → AreRelated s t → AreRuns (run program_of pids s) (run program_of pids t)
run-related program_of [] s t is = record { lines = refl; final = is }
run-related program_of (pid ∷ pids) s t is =
    let now = step-related program_of s t pid is in
    let later = run-related program_of pids (step program_of s pid).after (step program_of t pid).after now.after in
    record { lines = ap₂ (λ (ls ms : List TraceLine). ls ++ ms) now.lines later.lines; final = later.final }

-- ---- the laws

pub related-of : (f : ℕ → ℕ) (s t : State) → IsValid s → IsValid t → Renumbered f s t → AreRelated s t
related-of f s t whole whole_t is = record {
  f = f;
  files = t.files;
  same = λ i. record { tree = is.tree i; files = t.files; processes = is.processes i; last_process = is.last_process i };
  fits = record {
    matches = record {
      before = whole.files.count;
      following = whole_t.files.count;
      injective = λ m n x y at_m at_n. is.injective m n (ap is_some at_m) (ap is_some at_n);
      same = λ n x at. is.files n (ap is_some at) ∙ at;
      onto = λ m x at.
          let had = is.no_others m (ap is_some at) in
          (had.0, sym (is.files had.0 had.1) ∙ ap (at_number t.files) had.2 ∙ at, had.2);
    };
    opens = uses-of (IsPresent s.files) s.processes (λ n used.
        let found = used-among s whole.processes.ascending n used in
        subst (IsPresent s.files) found.6 ((whole.processes.placed found.0 found.1 found.4).opens found.2 found.3 found.5));
  };
}

of-related : (s t : State) (is : AreRelated s t) → Renumbered is.f s t
of-related s t is = record {
  tree = ap (λ (z : State). z.tree) is.same;
  last_process = ap (λ (z : State). z.last_process) is.same;
  processes = ap (λ (z : State). z.processes) is.same;
  injective = λ m n there_m there_n.
      let x = some-value (at_number s.files m) there_m in
      let y = some-value (at_number s.files n) there_n in
      is.fits.matches.injective m n x.0 y.0 x.1 y.1;
  files = λ n there.
      let x = some-value (at_number s.files n) there in
      ap (λ (z : State). at_number z.files (is.f n)) is.same ∙ is.fits.matches.same n x.0 x.1 ∙ sym x.1;
  no_others = λ m there.
      let x = some-value (at_number is.files m) (ap (λ (z : State). is_some (at_number z.files m)) (sym is.same) ∙ there) in
      let had = is.fits.matches.onto m x.0 x.1 in
      (had.0, ap is_some had.1, had.2);
}

pub renumbered-steps : RenumberedStepsAreEqual
renumbered-steps program_of f s t pid whole whole_t is =
    let both = step-related program_of s t pid (related-of f s t whole whole_t is) in
    record { outcome = both.outcome; lines = both.lines; renumbering = both.after.f; after = of-related (step program_of s pid).after (step program_of t pid).after both.after }

pub renumbered-runs : RenumberedRunsAreEqual
renumbered-runs program_of f s t pids whole whole_t is =
    let both = run-related program_of pids s t (related-of f s t whole whole_t is) in
    record { lines = both.lines; renumbering = both.final.f; final = of-related (run program_of pids s).final (run program_of pids t).final both.final }
