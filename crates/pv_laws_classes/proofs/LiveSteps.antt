-- Steps and runs from two states that are equal up to dead variables.
use Rattle.std.proofs.Common.{◌≡◌, ◌≢◌, ℕ, ℤ, Bool, true, false, if◌then◌else◌, List, [], ◌∷◌, ◌++◌, Option, None, Some, refl, ap₂, sym, subst, ◌∙◌}
use Rattle.pv_model.specs.declared.call.Call.{Call}
use Rattle.pv_model.specs.declared.call.Call.TheVariants as TheCall
use Rattle.pv_model.specs.declared.errno.Errno.TheVariants.{ENOSYS}
use Rattle.pv_model.specs.declared.outcome.Cause.TheVariants.{Promise as ByPromise}
use Rattle.pv_model.specs.declared.outcome.Outcome.{Outcome}
use Rattle.pv_model.specs.declared.outcome.Outcome.TheVariants.{Value, Killed}
use Rattle.pv_model.specs.declared.promise.Promise.{Promise}
use Rattle.pv_model.specs.Machine.{answer, answer_of, answer_where, answer_by_attempt, at_next_line, effect, refused, Bytes, end_process, collect, needs, Next, inside, calls_for, next, missing_promise, is_lenient, Program, Process, State, process_at, with_process, Stepped, Run, step, step_of, step_by, run, Line as TraceLine}
use Rattle.pv_model.specs.Answer.{answer_without_promise}
use Rattle.pv_model.specs.Calls.Processes.{exit_status}
use Rattle.pv_laws_states.specs.States.{IsValid}
use Rattle.pv_laws_classes.specs.Liveness.{Live, IsClosedTest, IsRead, here, later, by_test, with_values, AgreeOnLive, EqualUpToDead, ReadIsClosed, ClosedTestsAcceptRead, StepsIgnoreDead, RunsIgnoreDead, UnreadVariablesAreDead, RejectedVariablesAreDead}
use Rattle.pv_laws_classes.proofs.LiveAnswers.{Agree, agree-parent, AreAnswered, attempt-both}
use Rattle.pv_laws_states.proofs.RelatedAttempts.{AreBoth, both-refused}
use Rattle.pv_laws_classes.proofs.LiveCalls.{Awaits, awaits-all, WritesAlike, calls-both}
use Rattle.pv_laws_classes.proofs.LiveCounts.{write-count, TakesAlike, lines-alike}
use Rattle.pv_laws_classes.proofs.LiveLists.{AreLive}
use Rattle.pv_laws_classes.proofs.NextLiveSteps.{IsReady, NextAgrees, next-agrees}
use Rattle.pv_laws_classes.proofs.LiveStates.{Related, collect-related, process-related, with-related, end-related}
use Rattle.pv_laws_classes.proofs.LiveValues.{AwaitResult}

-- two steps are the same, and lead to related states
record AreStepped (is_live : Live) (a b : Stepped) : Type 0 where
  outcome : b.outcome ≡ a.outcome
  lines : b.lines ≡ a.lines
  after : Related (Agree is_live) a.after b.after

module _ (program_of : Bytes → Option Program) (is_live : Live) (closed : IsClosedTest is_live) (s t : State) (pid : ℕ) (both : Related (Agree is_live) s t) where
  module _ (p : Process) (at : process_at s pid ≡ Some p) (rs : List ℤ) (bs : Bytes) (there : process_at t pid ≡ Some (with_values rs bs p)) (agree : AgreeOnLive is_live p rs bs) where
    abbrev you : Process
    you = with_values rs bs p

    abbrev now : Process
    now = at_next_line p

    abbrev x : State
    x = with_process s pid now

    abbrev y : State
    y = with_process t pid (at_next_line you)

    -- ---- a call other than exit

    module _ (mine : AwaitResult is_live now rs bs) where
      called : Related (Awaits is_live pid) x y
      called = with-related (Agree is_live) (Awaits is_live pid) pid (λ n q cs ds other is. awaits-all is_live pid n q cs ds is) s t now rs bs (mine, λ other. absurd (other refl)) both

      effects-both : (call : Call) → WritesAlike is_live x pid now rs bs called.processes called.sorted called.each mine call
          → AreBoth (Related (Awaits is_live pid)) (effect program_of x pid now call) (effect program_of y pid (at_next_line you) call)
      effects-both call writes =
          subst (λ z. AreBoth (Related (Awaits is_live pid)) (effect program_of x pid now call) (effect program_of z pid (at_next_line you) call)) (sym called.same)
          (calls-both is_live x pid now rs bs called.processes called.sorted called.each mine program_of call writes)

      refused-both : (a : Promise) → AreAnswered is_live pid (answer_by_attempt s x pid now (refused 0 ENOSYS (ByPromise a))) (answer_by_attempt t y pid (at_next_line you) (refused 0 ENOSYS (ByPromise a)))
      refused-both a = attempt-both is_live pid now rs bs s t x y both called _ _ (both-refused (Related (Awaits is_live pid)) 0 ENOSYS (ByPromise a))

      missing-both : (a : Promise) → AreAnswered is_live pid (answer_without_promise s x pid now a) (answer_without_promise t y pid (at_next_line you) a)
      missing-both a = by (is_lenient p.promises)
        where
          by : (b : Bool)
              → AreAnswered is_live pid (if b then answer_by_attempt s x pid now (refused 0 ENOSYS (ByPromise a)) else record { after = collect (end_process s pid now 6); outcome = Killed a; walks = 0 })
              (if b then answer_by_attempt t y pid (at_next_line you) (refused 0 ENOSYS (ByPromise a)) else record { after = collect (end_process t pid (at_next_line you) 6); outcome = Killed a; walks = 0 })
          by true = refused-both a
          by false = record {
            after =
                collect-related (Agree is_live) (end_process s pid now 6) (end_process t pid (at_next_line you) 6)
                (end-related (Agree is_live) (Agree is_live) pid (λ n q cs ds other is. is) (agree-parent is_live) s t now rs bs 6 both);
            outcome = refl;
            walks = refl;
            gives = tt;
          }

      where-both : (call : Call) → WritesAlike is_live x pid now rs bs called.processes called.sorted called.each mine call → (o : Option Promise)
          → AreAnswered is_live pid (answer_where program_of s x pid now call o) (answer_where program_of t y pid (at_next_line you) call o)
      where-both call writes None = attempt-both is_live pid now rs bs s t x y both called _ _ (effects-both call writes)
      where-both call writes (Some a) = missing-both a

      answers-both : (call : Call) → WritesAlike is_live x pid now rs bs called.processes called.sorted called.each mine call → AreAnswered is_live pid (answer program_of s pid call) (answer program_of t pid call)
      unfolding answer
      answers-both call writes =
          subst (λ o. AreAnswered is_live pid (answer_of program_of s pid call o) (answer_of program_of t pid call (process_at t pid))) (sym at)
          (subst (λ o. AreAnswered is_live pid (answer_of program_of s pid call (Some p)) (answer_of program_of t pid call o)) (sym there) (where-both call writes (missing_promise p.promises (needs call))))

    -- ---- exit

    -- only the other processes need to agree
    abbrev OthersAgree : ℕ → Process → List ℤ → Bytes → Type 0
    OthersAgree n q cs ds = n ≢ pid → AgreeOnLive is_live q cs ds

    exits : (status : ℕ) → Related (Agree is_live) (collect (end_process x pid now status)) (collect (end_process y pid (at_next_line you) status))
    exits status =
        collect-related (Agree is_live) (end_process x pid now status) (end_process y pid (at_next_line you) status)
        (end-related OthersAgree (Agree is_live) pid (λ n q cs ds other is. is other) (agree-parent is_live) x y now rs bs status
        (with-related (Agree is_live) OthersAgree pid (λ n q cs ds other is. λ more. is) s t now rs bs (λ other. absurd (other refl)) both))

    exit-both : (code : ℤ) → AreAnswered is_live pid (answer program_of s pid (TheCall.Exit code)) (answer program_of t pid (TheCall.Exit code))
    unfolding answer effect needs
    exit-both code =
        subst (λ o. AreAnswered is_live pid (answer_of program_of s pid (TheCall.Exit code) o) (answer_of program_of t pid (TheCall.Exit code) (process_at t pid))) (sym at)
        (subst (λ o. AreAnswered is_live pid (answer_of program_of s pid (TheCall.Exit code) (Some p)) (answer_of program_of t pid (TheCall.Exit code) o)) (sym there)
        (record { after = exits (exit_status code); outcome = refl; walks = refl; gives = tt }))

    -- ---- steps

    abbrev Ready : Call → Type 0
    Ready = IsReady is_live closed p rs bs agree

    by-call : (call : Call) → Ready call → AreAnswered is_live pid (answer program_of s pid call) (answer program_of t pid call)
    by-call (TheCall.Exit code) ready = exit-both code
    by-call (TheCall.Write d n) ready = answers-both ready.0 (TheCall.Write d n) ready.1
    by-call call ready = answers-both ready call tt

    takes : (call : Call) → Ready call → TakesAlike is_live pid p you call (answer program_of s pid call).outcome
    takes call ready = by call ready (answer program_of s pid call).outcome refl
      where
        by : (call : Call) → Ready call → (o : Outcome) → (answer program_of s pid call).outcome ≡ o → TakesAlike is_live pid p you call o
        by (TheCall.Write d n) ready (Value count) is = let counted = write-count program_of d n s pid count is in ready.1 count counted.0 counted.1
        by call ready o is = tt

    by-next : (n m : Next) → NextAgrees is_live closed p rs bs agree n m → AreStepped is_live (step_by program_of s pid p n) (step_by program_of t pid you m)
    by-next (inside q) m is =
        subst (λ m. AreStepped is_live (step_by program_of s pid p (inside q)) (step_by program_of t pid you m)) (sym is.2)
        (record { outcome = refl; lines = refl; after = with-related (Agree is_live) (Agree is_live) pid (λ n q cs ds other is. is) s t q is.0 is.1 is.3 both })
    by-next (calls_for call) m is =
        let answered = by-call call is.1 in
        subst (λ m. AreStepped is_live (step_by program_of s pid p (calls_for call)) (step_by program_of t pid you m)) (sym is.0)
        (record {
          outcome = answered.outcome;
          lines = lines-alike is_live pid p you call (answer program_of s pid call) (answer program_of t pid call) answered.outcome answered.walks answered.gives (takes call is.1);
          after = answered.after;
        })

  step-alike : AreStepped is_live (step program_of s pid) (step program_of t pid)
  unfolding step
  step-alike = by (process_at s pid) refl (process_at t pid) refl (process-related (Agree is_live) s t pid both)
    where
      by : (o : Option Process) → process_at s pid ≡ o → (o' : Option Process) → process_at t pid ≡ o' → AreLive (Agree is_live) pid o o' → AreStepped is_live (step_of program_of s pid o) (step_of program_of t pid o')
      by None gone o' there is = subst (λ c. AreStepped is_live (step_of program_of s pid None) (step_of program_of t pid c)) (sym is) (record { outcome = refl; lines = refl; after = both })
      by (Some p) at o' there is =
          subst (λ c. AreStepped is_live (step_of program_of s pid (Some p)) (step_of program_of t pid c)) (sym is.2)
          (by-next p at is.0 is.1 (there ∙ is.2) is.3 (next p) (next (with_values is.0 is.1 p)) (next-agrees is_live closed p is.0 is.1 is.3))

-- ---- runs

record AreRuns (is_live : Live) (a b : Run) : Type 0 where
  lines : b.lines ≡ a.lines
  final : Related (Agree is_live) a.final b.final

run-alike : (program_of : Bytes → Option Program) (is_live : Live) → IsClosedTest is_live → (pids : List ℕ) (s t : State) → Related (Agree is_live) s t → AreRuns is_live (run program_of pids s) (run program_of pids t)
run-alike program_of is_live closed [] s t both = record { lines = refl; final = both }
run-alike program_of is_live closed (pid ∷ pids) s t both =
    let now = step-alike program_of is_live closed s t pid both in
    let later = run-alike program_of is_live closed pids (step program_of s pid).after (step program_of t pid).after now.after in
    record { lines = ap₂ (λ (ls ms : List TraceLine). ls ++ ms) now.lines later.lines; final = later.final }

-- ---- the laws

module _ (is_live : Live) (closed : IsClosedTest is_live) where
  related-of : (s t : State) → IsValid s → EqualUpToDead is_live s t → Related (Agree is_live) s t
  related-of s t whole is = record {
    processes = t.processes;
    same = λ i. record { tree = is.tree i; files = is.files i; processes = t.processes; last_process = is.last_process i };
    sorted = whole.processes.ascending;
    each = is.processes;
  }

  alike-of : (s t : State) → Related (Agree is_live) s t → EqualUpToDead is_live s t
  alike-of s t is = subst (EqualUpToDead is_live s) (sym is.same) (record { tree = refl; files = refl; last_process = refl; processes = is.each })

  pub steps-ignore-dead : StepsIgnoreDead is_live
  steps-ignore-dead program_of s t pid whole is =
      let both = step-alike program_of is_live closed s t pid (related-of s t whole is) in
      record { outcome = both.outcome; lines = both.lines; after = alike-of (step program_of s pid).after (step program_of t pid).after both.after }

  pub runs-ignore-dead : RunsIgnoreDead is_live
  runs-ignore-dead program_of s t pids whole is =
      let both = run-alike program_of is_live closed pids s t (related-of s t whole is) in
      record { lines = both.lines; final = alike-of (run program_of pids s).final (run program_of pids t).final both.final }

pub read-is-closed : ReadIsClosed
read-is-closed = record { of_line = λ program line i v at is. here line i v at is; of_next = λ program line next i v at may stays is. later line next i v at may stays is }

pub closed-accepts : ClosedTestsAcceptRead
closed-accepts test closed program n w (here line i v at is) = closed.of_line program line i v at is
closed-accepts test closed program n w (later line next i v at may stays is) = closed.of_next program line next i v at may stays (closed-accepts test closed program next v is)

pub unread-alter-nothing : UnreadVariablesAreDead
unread-alter-nothing = (steps-ignore-dead IsRead read-is-closed, runs-ignore-dead IsRead read-is-closed)

pub rejected-alter-nothing : RejectedVariablesAreDead
rejected-alter-nothing test closed = (steps-ignore-dead (by_test test) closed, runs-ignore-dead (by_test test) closed)
