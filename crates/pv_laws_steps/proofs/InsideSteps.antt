-- Steps that change only the inside of their own process.
use Rattle.std.proofs.Common.{◌≡◌, ◌≢◌, ℕ, pos, negsuc, true, Option, None, Some, refl, ap, sym, subst, ◌∙◌}
use Rattle.pv_model.specs.declared.call.Call.{Call}
use Rattle.pv_model.specs.declared.call.Call.TheVariants as TheCall
use Rattle.pv_model.specs.declared.errno.Errno.{Errno}
use Rattle.pv_model.specs.declared.errno.Errno.TheVariants.{ENOSYS}
use Rattle.pv_model.specs.declared.outcome.Cause.{Cause}
use Rattle.pv_model.specs.declared.outcome.Cause.TheVariants.{Promise as ByPromise}
use Rattle.pv_model.specs.declared.outcome.Outcome.TheVariants.{Value, Failed, Killed, Blocked}
use Rattle.pv_model.specs.declared.promise.Promise.{Promise}
use Rattle.pv_model.specs.Machine.{Answered, answer, answer_by_attempt, at_next_line, with_front, update, effect, Attempt, done, refused, after_walks, ◌>>=◌, ◌>>◌, Bytes, with_result, Effect, Reply, returns, returns_bytes, ends, waits, errno_number, collect, held_by_table, Next, inside, calls_for, next, Program, Process, State, process_at, with_process, Stepped, step, step_by}
use Rattle.pv_laws_states.specs.Calls.{reported_error}
use Rattle.pv_laws_states.specs.States.{IsValid}
use Rattle.pv_laws_states.proofs.ValidBySteps.{IsGoodNext, good-next}
use Rattle.pv_laws_states.proofs.CallOutcomes.{at_call, by_answer, refused-reports, blocked-leaves}
use Rattle.pv_laws_states.proofs.Processes.{with_process-twice, update-with}
use Rattle.pv_laws_states.proofs.ProcessInsides.{SameHolds, collect-same}
use Rattle.pv_laws_runs.proofs.OfLawsAccess.ProcessesAfterEnds.{step-is}
use Rattle.pv_laws_states.proofs.ReferenceMembers.{live-found}
use Rattle.pv_laws_steps.proofs.CommutingSteps.{put-there}
use Rattle.pv_laws_steps.specs.Beside.{HasSameReferences}
use Rattle.pv_laws_steps.specs.Commuting.{StaysInside, only_queries, changes_own_inside, IsInsideIf}

pub alike-held : (p q : Process) → SameHolds p q → HasSameReferences p q
alike-held p q same = record { directory = same.directory; descriptors = same.descriptors; held = ap held_by_table same.table }

module _ (s : State) (pid : ℕ) (now : Process) where
  abbrev x : State
  x = with_process s pid now

  abbrev continues : Reply → Type 0
  continues (returns n) = Unit {0}
  continues (returns_bytes n bytes) = Unit {0}
  continues (ends status) = ⊥
  continues waits = ⊥

  abbrev InwardBy : Attempt Effect → Type 0
  InwardBy (done walks (y, r)) = continues r × ((q : Process) × SameHolds now q × (y ≡ with_process s pid q))
  InwardBy (refused walks errno cause) = Unit {0}

  -- the state is unchanged except inside the process
  pub record Inward (a : Attempt Effect) : Type 0 where
    pub by : InwardBy a

  inward-after : (n : ℕ) (a : Attempt Effect) → Inward a → Inward (after_walks n a)
  inward-after n (done walks (y, r)) is = record { by = is.by }
  inward-after n (refused walks errno cause) is = record { by = tt }

  inward-bind : {B : Type 0} (a : Attempt B) (onward : B → Attempt Effect) → ((v : B) → Inward (onward v)) → Inward (a >>= onward)
  inward-bind (done walks v) onward is = inward-after walks (onward v) (is v)
  inward-bind (refused walks errno cause) onward is = record { by = tt }

  inward-then : {B : Type 0} (a : Attempt B) (onward : Attempt Effect) → Inward onward → Inward (a >> onward)
  inward-then (done walks v) onward is = inward-after walks onward is
  inward-then (refused walks errno cause) onward is = record { by = tt }

  itself : SameHolds now now
  itself = record { directory = refl; table = refl; descriptors = refl; parent = refl }

  inward-value : (n : ℕ) → Inward (done 0 (x, returns n))
  inward-value n = record { by = (tt, (now, itself, refl)) }

  inward-bytes : (n : ℕ) (bytes : Bytes) → Inward (done 0 (x, returns_bytes n bytes))
  inward-bytes n bytes = record { by = (tt, (now, itself, refl)) }

  inward-own : (n : ℕ) (q : Process) → SameHolds now q → Inward (done 0 (with_process x pid q, returns n))
  inward-own n q same = record { by = (tt, (q, same, with_process-twice s pid now q)) }

  same-holds : (q : Process) → q.directory ≡ now.directory → q.table ≡ now.table → q.descriptors ≡ now.descriptors → q.parent ≡ now.parent → SameHolds now q
  same-holds q directory table descriptors parent = record { directory = directory; table = table; descriptors = descriptors; parent = parent }

  ruleset parts = (inward-bind, inward-then, inward-value, inward-bytes, inward-own, same-holds, refl)

  pub asks-inward : (program_of : Bytes → Option Program) (call : Call) → only_queries call ≡ true → Inward (effect program_of x pid now call)
  unfolding effect
  asks-inward program_of TheCall.GetPid is = inward-value pid
  asks-inward program_of TheCall.GetPpid is = inward-value now.parent
  asks-inward program_of (TheCall.Pledge promises execpromises) is = search parts depth 20
  asks-inward program_of (TheCall.Stat path) is = search parts depth 20
  asks-inward program_of (TheCall.Lstat path) is = search parts depth 20
  asks-inward program_of (TheCall.Readlink path) is = search parts depth 20
  asks-inward program_of (TheCall.Fstat d) is = search parts depth 20
  asks-inward program_of call is = cc is

module _ (s : State) (pid : ℕ) (p : Process) (whole : IsValid s) (at : process_at s pid ≡ Some p) where
  -- the state after the process receives the answer
  abbrev IsLeftInside : State → Type 0
  IsLeftInside y = (q : Process) × SameHolds p q × (y ≡ with_process s pid q)

  reported-inside : (g : Process → Process) → ((q : Process) → SameHolds q (g q)) → (y : State) → (q : Process) × SameHolds (at_next_line p) q × (y ≡ with_process s pid q) → IsLeftInside (collect (update y pid g))
  reported-inside g keeps y is =
      let q : Process = is.0 in
      let reported : Process = g q in
      let same : SameHolds p reported = record {
        directory = (keeps q).directory ∙ is.1.directory;
        table = (keeps q).table ∙ is.1.table;
        descriptors = (keeps q).descriptors ∙ is.1.descriptors;
        parent = (keeps q).parent ∙ is.1.parent;
      } in (
        reported,
        same,
        ap (λ z. collect (update z pid g)) is.2 ∙ ap collect (update-with s pid g q) ∙ collect-same s pid p reported whole.processes.ascending at same ∙ ap (λ z. with_process z pid reported) whole.collected,
      )

  attempt-inside : (a : Attempt Effect) → Inward s pid (at_next_line p) a → IsLeftInside (answer_by_attempt s (at_call s pid p) pid (at_next_line p) a).after
  attempt-inside (done walks (y, returns n)) is = reported-inside (λ q. with_result q (pos n) 0) (λ q. record { directory = refl; table = refl; descriptors = refl; parent = refl }) y is.by.1
  attempt-inside (done walks (y, returns_bytes n bytes)) is =
      reported-inside (λ q. with_front bytes (with_result q (pos n) 0)) (λ q. record { directory = refl; table = refl; descriptors = refl; parent = refl }) y is.by.1
  attempt-inside (done walks (y, ends status)) is = absurd is.by.0
  attempt-inside (done walks (y, waits)) is = absurd is.by.0
  attempt-inside (refused walks e c) is = (
    with_result (at_next_line p) (negsuc 0) (errno_number e),
    record { directory = refl; table = refl; descriptors = refl; parent = refl },
    update-with s pid (λ q. with_result q (negsuc 0) (errno_number e)) (at_next_line p),
  )

  call-inside : (program_of : Bytes → Option Program) (call : Call) → only_queries call ≡ true → ((a : Promise) → ¬ ((answer program_of s pid call).outcome ≡ Killed a)) → IsLeftInside (answer program_of s pid call).after
  call-inside program_of call is alive =
      by_answer (λ (r : Answered). ((a : Promise) → ¬ (r.outcome ≡ Killed a)) → IsLeftInside r.after) program_of s pid call
      (λ none lives. let both : None ≡ Some p = sym none ∙ at in cc both)
      (λ y found met lives.
      let both : Some y ≡ Some p = sym found ∙ at in
      let same : y ≡ p = cc both in
      subst (λ (z : Process). IsLeftInside (answer_by_attempt s (at_call s pid z) pid (at_next_line z) (effect program_of (at_call s pid z) pid (at_next_line z) call)).after) (sym same)
      (attempt-inside (effect program_of (at_call s pid p) pid (at_next_line p) call) (asks-inward s pid (at_next_line p) program_of call is)))
      (λ y a found missing lenient lives.
      let both : Some y ≡ Some p = sym found ∙ at in
      let same : y ≡ p = cc both in
      subst (λ (z : Process). IsLeftInside (answer_by_attempt s (at_call s pid z) pid (at_next_line z) (refused 0 ENOSYS (ByPromise a))).after) (sym same)
      (attempt-inside (refused 0 ENOSYS (ByPromise a)) (record { by = tt })))
      (λ y a found missing strict lives. absurd (lives a refl))
      alive

module _ (program_of : Bytes → Option Program) (s : State) (pid : ℕ) (p : Process) (whole : IsValid s) (at : process_at s pid ≡ Some p) where
  stays : (y : State) → IsLeftInside s pid p whole at y → (step program_of s pid).after ≡ y → StaysInside program_of s pid
  stays y is after = record { before = p; following = is.0; at = at; alike = alike-held p is.0 is.1; parent = is.1.parent; after = after ∙ is.2 }

  step-by : (n : Next) → next p ≡ n → step program_of s pid ≡ step_by program_of s pid p n
  step-by n is = step-is program_of s pid p at ∙ ap (step_by program_of s pid p) is

  asks-stay : (n : Next) → next p ≡ n → changes_own_inside n ≡ true → ((a : Promise) → (step program_of s pid).outcome ≢ Killed a) → StaysInside program_of s pid
  asks-stay (inside q) is inward alive =
      let good : IsGoodNext p (inside q) = subst (IsGoodNext p) is (good-next p (whole.processes.running pid p at)) in
      stays (with_process s pid q) (q, good.1, refl) (ap (λ (w : Stepped). w.after) (step-by (inside q) is))
  asks-stay (calls_for call) is inward alive =
      let same = step-by (calls_for call) is in
      stays (answer program_of s pid call).after
      (call-inside s pid p whole at program_of call inward (λ a dies. alive a (ap (λ (w : Stepped). w.outcome) same ∙ dies)))
      (ap (λ (w : Stepped). w.after) same)

  refused-stay : (errno : Errno) (cause : Cause) → (step program_of s pid).outcome ≡ Failed errno cause → StaysInside program_of s pid
  refused-stay errno cause fails = by (next p) refl
    where
      by : (n : Next) → next p ≡ n → StaysInside program_of s pid
      by (inside q) is = let reported : Value 0 ≡ Failed errno cause = sym (ap (λ (w : Stepped). w.outcome) (step-by (inside q) is)) ∙ fails in cc reported
      by (calls_for call) is =
          let same = step-by (calls_for call) is in
          let reports = refused-reports program_of s pid call errno cause (sym (ap (λ (w : Stepped). w.outcome) same) ∙ fails) in
          let both : Some reports.0 ≡ Some p = sym reports.1 ∙ at in
          let mine : reports.0 ≡ p = cc both in
          stays (answer program_of s pid call).after
          (reported_error p errno, record { directory = refl; table = refl; descriptors = refl; parent = refl }, reports.2 ∙ ap (λ (z : Process). with_process s pid (reported_error z errno)) mine)
          (ap (λ (w : Stepped). w.after) same)

  waits-stay : (step program_of s pid).outcome ≡ Blocked → StaysInside program_of s pid
  waits-stay blocks = by (next p) refl
    where
      left : s ≡ with_process s pid p
      left = ap (λ ps. record s { processes = ps }) (sym (put-there pid s.processes p whole.processes.ascending (live-found s pid p at)))

      by : (n : Next) → next p ≡ n → StaysInside program_of s pid
      by (inside q) is = let reported : Value 0 ≡ Blocked = sym (ap (λ (w : Stepped). w.outcome) (step-by (inside q) is)) ∙ blocks in cc reported
      by (calls_for call) is =
          let same = step-by (calls_for call) is in
          let blocked = blocked-leaves program_of s pid call (sym (ap (λ (w : Stepped). w.outcome) same) ∙ blocks) in
          stays (answer program_of s pid call).after (p, record { directory = refl; table = refl; descriptors = refl; parent = refl }, blocked ∙ left) (ap (λ (w : Stepped). w.after) same)

  pub where-inside : IsInsideIf program_of s pid p
  where-inside = record { asks = λ inward alive. asks-stay (next p) refl inward alive; refused = refused-stay; waits = waits-stay }
