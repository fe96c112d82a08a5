-- A step with other promises that miss the same needs as its own has the same lines, and the next state is equal up to
-- promises.
use Rattle.std.proofs.Common.{◌≡◌, ◌∙◌, sym, ap, ap₂, subst, refl, ℕ, Bool, true, false, if◌then◌else◌, [], ◌∷◌, take, Option, None, Some, option_map}
use Rattle.pv_model.specs.declared.call.Call.{Call}
use Rattle.pv_model.specs.declared.call.Call.TheVariants as TheCall
use Rattle.pv_model.specs.declared.errno.Errno.TheVariants.{EACCES, ENOENT, ENOEXEC, ENOSYS}
use Rattle.pv_model.specs.declared.follow.Follow.TheVariants.{Last}
use Rattle.pv_model.specs.declared.outcome.Cause.TheVariants.{Promise as ByPromise}
use Rattle.pv_model.specs.declared.outcome.Outcome.{Outcome}
use Rattle.pv_model.specs.declared.outcome.Outcome.TheVariants.{Value, Text, Killed}
use Rattle.pv_model.specs.declared.promise.Promise.{Promise}
use Rattle.pv_model.specs.Answer.{answer_without_promise}
use Rattle.pv_model.specs.Answers.Observed.{is_pledge}
use Rattle.pv_model.specs.Machine.{Answered, answer, answer_of, answer_where, answer_by_attempt, at_next_line, effect, Attempt, done, refused, after_walks, ◌>>=◌, ◌>>◌, demand, Bytes, executable_bytes, with_program, end_process, Effect, returns, walk_from, judge_for, node_of, collect, needs, permission_x, Next, inside, calls_for, next, Promises, is_lenient, missing_promise, Program, Process, State, process_at, with_process, Stepped, step, step_by, call_lines, moved_words, gave, gio_word, buffer_of, node_at}
use Rattle.pv_laws_states.specs.States.{IsValid}
use Rattle.pv_laws_states.proofs.CallRemainders
use Rattle.pv_laws_states.proofs.ReferenceMembers.{live-found}
use Rattle.pv_laws_states.proofs.CallOutcomes.{at_call}
use Rattle.pv_laws_states.proofs.Processes.{process_at-same, update-is}
use Rattle.pv_laws_access.proofs.ProcessesAfterEnds.{step-is}
use Rattle.pv_laws_steps.proofs.CommutingSteps.{put-there}
use Rattle.pv_laws_steps.proofs.ReportedParts.{lines_of}
use Rattle.pv_laws_answers.specs.Begun.{begun_with}
use Rattle.pv_laws_answers.specs.ProcessImages.{with_promises}
use Rattle.pv_laws_answers.proofs.AskingCalls.{met-answer}
use Rattle.pv_laws_answers.proofs.OtherPromises.{f, attempt-both, collect-changed, end-changed, moved, moved-after, next-pledged, pledged_next, process-changed, rows, with-changed}
use Rattle.pv_laws_answers.proofs.OtherRestraints.{next-call}
use Rattle.pv_laws_schedules.specs.Idle.{StepsDifferInPromises}

abbrev bare : State → State
bare s = begun_with None s

-- ---- attempts that are equal up to promises

near-bind : {A : Type 0} (a : Attempt A) (h k : A → Attempt Effect) → ((v : A) → moved None (h v) ≡ moved None (k v)) → moved None (a >>= h) ≡ moved None (a >>= k)
near-bind (done walks v) h k is = sym (moved-after None walks (h v)) ∙ ap (after_walks walks) (is v) ∙ moved-after None walks (k v)
near-bind (refused walks errno cause) h k is = refl

near-then : {A : Type 0} (a : Attempt A) (h k : Attempt Effect) → moved None h ≡ moved None k → moved None (a >> h) ≡ moved None (a >> k)
near-then (done walks v) h k is = sym (moved-after None walks h) ∙ ap (after_walks walks) is ∙ moved-after None walks k
near-then (refused walks errno cause) h k is = refl

module _ (program_of : Bytes → Option Program) (s : State) (pid : ℕ) (p : Process) (set : Promises) (at : process_at s pid ≡ Some p) (whole : IsValid s) where
  abbrev q : Process
  q = record p { promises = Some set }

  abbrev u : State
  u = with_process s pid q

  own : with_process s pid p ≡ s
  own = ap (λ ps. record s { processes = ps }) (put-there pid s.processes p whole.processes.ascending (live-found s pid p at))

  bare-same : bare u ≡ bare s
  bare-same = sym (with-changed None s pid q) ∙ with-changed None s pid p ∙ ap bare own

  -- processes that are equal up to promises
  with-same : (a b : Process) → f None a ≡ f None b → bare (with_process u pid a) ≡ bare (with_process s pid b)
  with-same a b same =
      sym (with-changed None u pid a) ∙ ap₂ (λ (v : State) (r : Process). with_process v pid r) bare-same same ∙ with-changed None s pid b

  abbrev x : State
  x = at_call s pid p

  abbrev y : State
  y = at_call u pid q

  abbrev me : Process
  me = at_next_line p

  abbrev you : Process
  you = at_next_line q

  bare-called : bare y ≡ bare x
  bare-called = with-same you me refl

  -- ---- effects

  executed : (program : Program) → bare (with_process y pid (with_program y pid you program)) ≡ bare (with_process x pid (with_program x pid me program))
  executed program =
      sym (with-changed None y pid (with_program y pid you program)) ∙ ap (λ (v : State). with_process v pid (f None (with_program x pid me program))) bare-called
      ∙ with-changed None x pid (with_program x pid me program)

  near : (call : Call) → is_pledge call ≡ false → moved None (effect program_of y pid you call) ≡ moved None (effect program_of x pid me call)
  unfolding effect
  near (TheCall.Pledge promises execpromises) plain = cc plain
  near (TheCall.Execve path) plain =
      near-bind (walk_from x me.directory Last path) (λ place. judge_for y you place permission_x >> CallRemainders.execve_1 y pid you program_of place) (λ place. judge_for x me place permission_x >> CallRemainders.execve_1 x pid me program_of place)
      (λ place. near-then (judge_for x me place permission_x) (CallRemainders.execve_1 y pid you program_of place) (CallRemainders.execve_1 x pid me program_of place)
      (near-bind (demand ENOENT (node_of place)) (CallRemainders.execve_2 y pid you program_of) (CallRemainders.execve_2 x pid me program_of)
      (λ n. near-bind (demand EACCES (executable_bytes (node_at x.tree n))) (CallRemainders.execve_3 y pid you program_of) (CallRemainders.execve_3 x pid me program_of)
      (λ bytes. near-bind (demand ENOEXEC (program_of bytes)) (CallRemainders.execve_4 y pid you) (CallRemainders.execve_4 x pid me)
      (λ program. ap (λ (v : State). done 0 (v, returns 0)) (executed program))))))
  near call plain =
      sym (rows None y pid you program_of call refl).same ∙ ap (λ (v : State). effect program_of v pid (f None me) call) bare-called ∙ (rows None x pid me program_of call refl).same

  -- ---- answers

  record SameAnswer (a b : Answered) : Type 0 where
    after : bare b.after ≡ bare a.after
    outcome : b.outcome ≡ a.outcome
    walks : b.walks ≡ a.walks

  attempts-same : (a b : Attempt Effect) → moved None b ≡ moved None a → SameAnswer (answer_by_attempt s x pid me a) (answer_by_attempt u y pid you b)
  attempts-same a b same =
      let one = attempt-both None s x pid me a in
      let two = attempt-both None u y pid you b in
      let middle : answer_by_attempt (bare u) (bare y) pid (f None me) (moved None b) ≡ answer_by_attempt (bare s) (bare x) pid (f None me) (moved None a) =
      λ i. answer_by_attempt (bare-same i) (bare-called i) pid (f None me) (same i) in
      record {
        after = sym two.after ∙ ap (λ (r : Answered). r.after) middle ∙ one.after;
        outcome = sym two.outcome ∙ ap (λ (r : Answered). r.outcome) middle ∙ one.outcome;
        walks = sym two.walks ∙ ap (λ (r : Answered). r.walks) middle ∙ one.walks;
      }

  killed-same : (a : Promise) → SameAnswer (record { after = collect (end_process s pid me 6); outcome = Killed a; walks = 0 }) (record { after = collect (end_process u pid you 6); outcome = Killed a; walks = 0 })
  killed-same a = record {
    after =
        sym (collect-changed None (end_process u pid you 6)) ∙ ap collect (sym (end-changed None u pid you 6) ∙ ap (λ (v : State). end_process v pid (f None me) 6) bare-same ∙ end-changed None s pid me 6)
        ∙ collect-changed None (end_process s pid me 6);
    outcome = refl;
    walks = refl;
  }

  lacks-same : (a : Promise) → is_lenient (Some set) ≡ is_lenient p.promises → SameAnswer (answer_without_promise s x pid me a) (answer_without_promise u y pid you a)
  lacks-same a lenient = by (is_lenient p.promises) (is_lenient (Some set)) lenient
    where
      by : (b c : Bool) → c ≡ b
          → SameAnswer (if b then answer_by_attempt s x pid me (refused 0 ENOSYS (ByPromise a)) else record { after = collect (end_process s pid me 6); outcome = Killed a; walks = 0 })
          (if c then answer_by_attempt u y pid you (refused 0 ENOSYS (ByPromise a)) else record { after = collect (end_process u pid you 6); outcome = Killed a; walks = 0 })
      by true true same = attempts-same (refused 0 ENOSYS (ByPromise a)) (refused 0 ENOSYS (ByPromise a)) refl
      by true false same = cc same
      by false true same = cc same
      by false false same = killed-same a

  module _ (call : Call) where
    answer-lacks : (v : State) (r : Process) (a : Promise) → process_at v pid ≡ Some r → missing_promise r.promises (needs call) ≡ Some a
        → answer program_of v pid call ≡ answer_without_promise v (at_call v pid r) pid (at_next_line r) a
    unfolding answer
    answer-lacks v r a there lacks = ap (answer_of program_of v pid call) there ∙ ap (answer_where program_of v (at_call v pid r) pid (at_next_line r) call) lacks

    answers-same : is_pledge call ≡ false → missing_promise (Some set) (needs call) ≡ missing_promise p.promises (needs call) → is_lenient (Some set) ≡ is_lenient p.promises
        → SameAnswer (answer program_of s pid call) (answer program_of u pid call)
    answers-same plain same lenient = by (missing_promise p.promises (needs call)) refl
      where
        by : (o : Option Promise) → missing_promise p.promises (needs call) ≡ o → SameAnswer (answer program_of s pid call) (answer program_of u pid call)
        by None met =
            subst (λ (a : Answered). SameAnswer a (answer program_of u pid call)) (sym (met-answer program_of s pid p call at met))
            (subst (SameAnswer (answer_by_attempt s x pid me (effect program_of x pid me call))) (sym (met-answer program_of u pid q call (process_at-same s pid q) (same ∙ met)))
            (attempts-same (effect program_of x pid me call) (effect program_of y pid you call) (near call plain)))
        by (Some a) lacks =
            subst (λ (b : Answered). SameAnswer b (answer program_of u pid call)) (sym (answer-lacks s p a at lacks))
            (subst (SameAnswer (answer_without_promise s x pid me a)) (sym (answer-lacks u q a (process_at-same s pid q) (same ∙ lacks))) (lacks-same a lenient))

    -- ---- lines

    buffers : (v w : State) → bare w ≡ bare v → buffer_of (process_at w pid) ≡ buffer_of (process_at v pid)
    buffers v w same = sym (kept w) ∙ ap (λ (z : State). buffer_of (process_at z pid)) same ∙ kept v
      where
        by : (o : Option Process) → buffer_of (option_map (f None) o) ≡ buffer_of o
        by None = refl
        by (Some r) = refl

        kept : (z : State) → buffer_of (process_at (bare z) pid) ≡ buffer_of (process_at z pid)
        kept z = ap buffer_of (process-changed None z pid) ∙ by (process_at z pid)

    moves-same : (v w : State) → bare w ≡ bare v → (c : Call) (o : Outcome) → moved_words w pid q c o ≡ moved_words v pid p c o
    moves-same v w same c (Text taken) = ap (λ (bs : Bytes). gio_word gave (take taken.len bs) ∷ []) (buffers v w same)
    moves-same v w same (TheCall.Write d n) (Value count) = refl
    moves-same v w same c o = refl

    lines-same : (a b : Answered) → SameAnswer a b → call_lines pid q call b ≡ call_lines pid p call a
    unfolding call_lines
    lines-same a b is =
        ap₂ (λ (o : Outcome) (walks : ℕ). lines_of pid call walks o (moved_words b.after pid q call o)) is.outcome is.walks ∙ ap (lines_of pid call a.walks a.outcome) (moves-same a.after b.after is.after call a.outcome)

  -- ---- steps

  steps-differ : ((call : Call) → next p ≡ calls_for call
      → (is_pledge call ≡ false) × (missing_promise (Some set) (needs call) ≡ missing_promise p.promises (needs call)) × (is_lenient (Some set) ≡ is_lenient p.promises))
      → StepsDifferInPromises (step program_of s pid) (step program_of u pid)
  steps-differ same = by (next p) refl
    where
      at-steps : (n m : Next) → next p ≡ n → next q ≡ m → StepsDifferInPromises (step_by program_of s pid p n) (step_by program_of u pid q m) → StepsDifferInPromises (step program_of s pid) (step program_of u pid)
      at-steps n m is is' differ =
          subst (λ (w : Stepped). StepsDifferInPromises w (step program_of u pid)) (sym (step-is program_of s pid p at ∙ ap (step_by program_of s pid p) is))
          (subst (StepsDifferInPromises (step_by program_of s pid p n)) (sym (step-is program_of u pid q (process_at-same s pid q) ∙ ap (step_by program_of u pid q) is')) differ)

      by : (n : Next) → next p ≡ n → StepsDifferInPromises (step program_of s pid) (step program_of u pid)
      by (inside r) is =
          at-steps (inside r) (inside (f (Some set) r)) is (next-pledged (Some set) p ∙ ap (pledged_next (Some set)) is) (record { lines = refl; after = with-same (f (Some set) r) r refl })
      by (calls_for call) is =
          let all = same call is in
          let answers = answers-same call all.0 all.1 all.2 in
          at-steps (calls_for call) (calls_for call) is (next-call p (Some set) p.table call is) (record { lines = lines-same call (answer program_of s pid call) (answer program_of u pid call) answers; after = answers.after })

-- the same for the state with these promises
pub steps-fewer : (program_of : Bytes → Option Program) (s : State) (pid : ℕ) (p : Process) (set : Promises) → process_at s pid ≡ Some p → IsValid s
    → ((call : Call) → next p ≡ calls_for call → (is_pledge call ≡ false) × (missing_promise (Some set) (needs call) ≡ missing_promise p.promises (needs call)) × (is_lenient (Some set) ≡ is_lenient p.promises))
    → StepsDifferInPromises (step program_of s pid) (step program_of (with_promises s pid set) pid)
steps-fewer program_of s pid p set at whole same =
    subst (λ (v : State). StepsDifferInPromises (step program_of s pid) (step program_of v pid)) (sym (update-is s pid (λ z. record z { promises = Some set }) p at)) (steps-differ program_of s pid p set at whole same)
