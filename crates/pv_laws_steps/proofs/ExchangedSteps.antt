-- A step of one process before and after a step of another. If it makes the same change in both cases, and the other
-- step follows that change, the steps commute.
use Rattle.std.proofs.Common.{◌≡◌, ◌≢◌, ℕ, ◌+◌, pos, negsuc, true, if◌then◌else◌, Option, None, Some, refl, ap, ap₂, sym, subst, ◌∙◌}
use Rattle.pv_model.specs.declared.call.Call.{Call}
use Rattle.pv_model.specs.declared.errno.Errno.{Errno}
use Rattle.pv_model.specs.declared.errno.Errno.TheVariants.{ENOSYS}
use Rattle.pv_model.specs.declared.outcome.Cause.{Cause}
use Rattle.pv_model.specs.declared.outcome.Cause.TheVariants.{Plain, Promise as ByPromise}
use Rattle.pv_model.specs.declared.outcome.Outcome.TheVariants.{Failed, Killed}
use Rattle.pv_model.specs.declared.promise.Promise.{Promise}
use Rattle.pv_model.specs.Machine.{Answered, answer, answer_of, answer_where, answer_by_attempt, at_next_line, with_front, update, effect, Attempt, done, refused, after_walks, ◌>>=◌, ◌>>◌, demand, Bytes, with_result, end_process, Effect, Reply, returns, returns_bytes, ends, waits, errno_number, collect, needs, calls_for, next, missing_promise, is_lenient, Program, Process, State, process_at, with_process, Stepped, step, step_by, buffer_of}
use Rattle.pv_laws_states.specs.States.{EncodesPrograms, IsValid}
use Rattle.pv_laws_states.proofs.ValidBySteps.{step-keeps_valid}
use Rattle.pv_laws_states.proofs.CallOutcomes.{at_call}
use Rattle.pv_laws_states.proofs.Processes.{process_at-same, update-with}
use Rattle.pv_laws_states.proofs.ProcessInsides.{SameHolds, collect-same}
use Rattle.pv_laws_runs.specs.OfLawsAccess.Growth.{IsUnchangedExceptParent}
use Rattle.pv_laws_runs.proofs.OfLawsAccess.ProcessesAfterEnds.{step-is, valid-in_order}
use Rattle.pv_laws_runs.proofs.OfLawsAccess.ProgramImages.{others-keep}
use Rattle.pv_laws_steps.specs.Beside.{with_change, become}
use Rattle.pv_laws_steps.specs.Commuting.{Commute}
use Rattle.pv_laws_steps.proofs.ChangedPairs.{SteppedPair}
use Rattle.pv_laws_steps.proofs.StepsOfOthers.{others-alter-nothing}
use Rattle.pv_laws_steps.proofs.CommutingSteps.{with-is-change}
use Rattle.pv_laws_steps.proofs.InsideSteps.{alike-held}
use Rattle.pv_laws_steps.proofs.ParentIndependence.{orphan, orphaned, next-orphan}
use Rattle.pv_laws_steps.proofs.ReportedParts.{lines-reported}

-- a change, or none
abbrev pub acts : {A : Type 0} → (A → State → State) → Option A → State → State
acts act None x = x
acts act (Some a) x = act a x

module _ (A : Type 0) (act : A → State → State) (s t : State) (j n : ℕ) (now : Process) where
  abbrev pub is_reported : Reply → Type 0
  is_reported (returns m) = Unit {0}
  is_reported (returns_bytes m bytes) = Unit {0}
  is_reported r = ⊥

  abbrev pub TwoBy : Attempt Effect → Attempt Effect → Type 0
  TwoBy (done w (a, r)) (done v (b, q)) =
      (v ≡ w) × (q ≡ r) × is_reported r × ((o : Option A) × (p : Process) × SameHolds now p × (a ≡ acts act o (with_process s j p)) × (b ≡ acts act o (with_process t j (orphan n p))))
  TwoBy (refused w e c) (refused v f d) = (v ≡ w) × (f ≡ e) × (d ≡ c)
  TwoBy _ _ = ⊥

  -- both attempts give the same answer, and make the same change to the process and by one act
  pub record Two (a b : Attempt Effect) : Type 0 where
    pub both : TwoBy a b

  pub two-after : (m : ℕ) (a b : Attempt Effect) → Two a b → Two (after_walks m a) (after_walks m b)
  two-after m (done w (a, r)) (done v (b, q)) is = record { both = (ap (λ i. m + i) is.both.0, is.both.1, is.both.2, is.both.3) }
  two-after m (done w (a, r)) (refused v f d) is = absurd is.both
  two-after m (refused w e c) (done v (b, q)) is = absurd is.both
  two-after m (refused w e c) (refused v f d) is = record { both = (ap (λ i. m + i) is.both.0, is.both.1, is.both.2) }

  pub two-bind : {B : Type 0} (a : Attempt B) (g h : B → Attempt Effect) → ((v : B) → Two (g v) (h v)) → Two (a >>= g) (a >>= h)
  two-bind (done w v) g h is = two-after w (g v) (h v) (is v)
  two-bind (refused w e c) g h is = record { both = (refl, refl, refl) }

  pub two-then : {B : Type 0} (a : Attempt B) (g h : Attempt Effect) → Two g h → Two (a >> g) (a >> h)
  two-then (done w v) g h is = two-after w g h is
  two-then (refused w e c) g h is = record { both = (refl, refl, refl) }

  pub two-refused : (e : Errno) (c : Cause) → Two (refused 0 e c) (refused 0 e c)
  two-refused e c = record { both = (refl, refl, refl) }

  pub two-demand : {B : Type 0} (e : Errno) (o : Option B) (g h : B → Attempt Effect) → ((v : B) → o ≡ Some v → Two (g v) (h v)) → Two (demand e o >>= g) (demand e o >>= h)
  two-demand e None g h is = two-refused e Plain
  two-demand e (Some v) g h is = two-after 0 (g v) (h v) (is v refl)

-- ---- before and after a step of process k

-- the answer of a call whose promises are held is that of its effect
pub answer-held : (program_of : Bytes → Option Program) (s : State) (pid : ℕ) (p : Process) (call : Call) → process_at s pid ≡ Some p → missing_promise p.promises (needs call) ≡ None
    → answer program_of s pid call ≡ answer_by_attempt s (at_call s pid p) pid (at_next_line p) (effect program_of (at_call s pid p) pid (at_next_line p) call)
unfolding answer
answer-held program_of s pid p call at held = ap (answer_of program_of s pid call) at ∙ ap (answer_where program_of s (at_call s pid p) pid (at_next_line p) call) held

-- the answer of a call that lacks a promise, under `error`
pub answer-lacking : (program_of : Bytes → Option Program) (s : State) (pid : ℕ) (p : Process) (call : Call) (a : Promise) → process_at s pid ≡ Some p → missing_promise p.promises (needs call) ≡ Some a
    → is_lenient p.promises ≡ true → answer program_of s pid call ≡ answer_by_attempt s (at_call s pid p) pid (at_next_line p) (refused 0 ENOSYS (ByPromise a))
unfolding answer
answer-lacking program_of s pid p call a at missing lenient =
    ap (answer_of program_of s pid call) at ∙ ap (answer_where program_of s (at_call s pid p) pid (at_next_line p) call) missing
    ∙ ap (λ b. if b then answer_by_attempt s (at_call s pid p) pid (at_next_line p) (refused 0 ENOSYS (ByPromise a)) else record { after = collect (end_process s pid (at_next_line p) 6); outcome = Killed a; walks = 0 }) lenient

module _ (program_of : Bytes → Option Program) (encodes : EncodesPrograms program_of) (s : State) (j k : ℕ) (p : Process) (whole : IsValid s) (apart : j ≢ k) (at : process_at s j ≡ Some p) where
  abbrev pub after_k : State
  after_k = (step program_of s k).after

  pub valid-following : IsValid after_k
  valid-following = step-keeps_valid program_of encodes s k whole

  abbrev left : (q : Process) × (process_at after_k j ≡ Some q) × IsUnchangedExceptParent p q
  left = others-keep program_of s k j p (valid-in_order s whole) apart at

  -- the parent of the process after the step
  abbrev pub heir : ℕ
  heir = left.0.parent

  pub at-following : process_at after_k j ≡ Some (orphan heir p)
  at-following = left.1 ∙ ap Some left.2.all

  -- its references are kept
  pub quiet : (q : Process) → SameHolds p q → collect (with_process s j q) ≡ with_process s j q
  quiet q same = collect-same s j p q whole.processes.ascending at same ∙ ap (λ z. with_process z j q) whole.collected

  pub quiet-following : (q : Process) → SameHolds (orphan heir p) q → collect (with_process after_k j q) ≡ with_process after_k j q
  quiet-following q same = collect-same after_k j (orphan heir p) q valid-following.processes.ascending at-following same ∙ ap (λ z. with_process z j q) valid-following.collected

  -- the step of k follows changes inside the process
  pub passes-by : (q : Process) → SameHolds p q → SteppedPair (λ x. with_change x j (become q)) (step program_of s k) (step program_of (with_change s j (become q)) k)
  passes-by q same = let beside = others-alter-nothing program_of s k j p q whole apart at (alike-held p q same) in record { outcome = beside.outcome; lines = beside.lines; after = beside.after }

  module _ (A : Type 0) (act : A → State → State) where
    -- two steps make the same change, each to its own process and by one act
    pub record StepsTwice (a b : Stepped) : Type 0 where
      pub acted : Option A
      pub following : Process
      pub same : SameHolds p following
      pub after : a.after ≡ acts act acted (with_process s j following)
      pub other : b.after ≡ acts act acted (with_process after_k j (orphan heir following))
      pub outcome : b.outcome ≡ a.outcome
      pub lines : b.lines ≡ a.lines

    -- if the step of k follows the act, the steps commute
    pub commute-steps : StepsTwice (step program_of s j) (step program_of after_k j)
        → ((o : Option A) (q : Process) → SameHolds p q → SteppedPair (λ x. acts act o (with_change x j (become q))) (step program_of s k) (step program_of (acts act o (with_change s j (become q))) k))
        → Commute program_of s j k
    commute-steps twice passes =
        let q : Process = twice.following in
        let after_s : (step program_of s j).after ≡ acts act twice.acted (with_change s j (become q)) = twice.after ∙ ap (acts act twice.acted) (with-is-change s j p q whole at twice.same.parent) in
        let by = passes twice.acted q twice.same in
        record {
          first = record { outcome = twice.outcome; lines = twice.lines };
          second = record { outcome = ap (λ x. (step program_of x k).outcome) after_s ∙ by.outcome; lines = ap (λ x. (step program_of x k).lines) after_s ∙ by.lines };
          after =
              twice.other
              ∙ ap (acts act twice.acted) (with-is-change after_k j (orphan heir p) (orphan heir q) valid-following at-following refl)
              ∙ sym (ap (λ x. (step program_of x k).after) after_s ∙ by.after);
        }

    module _ (seen : (a : A) (x : State) → process_at (act a x) j ≡ process_at x j)
        (settles : (a : A) (q : Process) (h : Process → Process) → SameHolds p (h q) → collect (update (act a (with_process s j q)) j h) ≡ act a (with_process s j (h q)))
        (settles_after : (a : A) (q : Process) (h : Process → Process) → SameHolds (orphan heir p) (h q) → collect (update (act a (with_process after_k j q)) j h) ≡ act a (with_process after_k j (h q))) where
      abbrev n : ℕ
      n = heir

      abbrev t : State
      t = after_k

      abbrev now : Process
      now = at_next_line p

      -- both answers make the same change, each to its own process
      record AnswersTwice (a b : Answered) : Type 0 where
        acted : Option A
        following : Process
        same : SameHolds p following
        after : a.after ≡ acts act acted (with_process s j following)
        other : b.after ≡ acts act acted (with_process t j (orphan n following))
        outcome : b.outcome ≡ a.outcome
        walks : b.walks ≡ a.walks

      settled : (o : Option A) (q : Process) (h : Process → Process) → SameHolds p (h q) → collect (update (acts act o (with_process s j q)) j h) ≡ acts act o (with_process s j (h q))
      settled None q h same = ap collect (update-with s j h q) ∙ quiet (h q) same
      settled (Some a) q h same = settles a q h same

      settled_t : (o : Option A) (q : Process) (h : Process → Process) → SameHolds (orphan n p) (h q) → collect (update (acts act o (with_process t j q)) j h) ≡ acts act o (with_process t j (h q))
      settled_t None q h same = ap collect (update-with t j h q) ∙ quiet-following (h q) same
      settled_t (Some a) q h same = settles_after a q h same

      -- a change of a process that keeps its references
      record Reports (h : Process → Process) : Type 0 where
        holds : (q : Process) → SameHolds q (h q)
        orphans : (q : Process) → h (orphan n q) ≡ orphan n (h q)

      module _ (a b : State) (h : Process → Process) (reports : Reports h) (o : Option A) (q : Process) (same : SameHolds now q) (a_is : a ≡ acts act o (with_process s j q)) (b_is : b ≡ acts act o (with_process t j (orphan n q))) where
        reported-same : SameHolds p (h q)
        reported-same = record {
          directory = (reports.holds q).directory ∙ same.directory;
          table = (reports.holds q).table ∙ same.table;
          descriptors = (reports.holds q).descriptors ∙ same.descriptors;
          parent = (reports.holds q).parent ∙ same.parent;
        }

        reported-orphan : SameHolds (orphan n p) (h (orphan n q))
        reported-orphan =
            subst (SameHolds (orphan n p)) (sym (reports.orphans q)) (record { directory = reported-same.directory; table = reported-same.table; descriptors = reported-same.descriptors; parent = refl })

        reported-after : collect (update a j h) ≡ acts act o (with_process s j (h q))
        reported-after = ap (λ x. collect (update x j h)) a_is ∙ settled o q h reported-same

        reported-other : collect (update b j h) ≡ acts act o (with_process t j (orphan n (h q)))
        reported-other = ap (λ x. collect (update x j h)) b_is ∙ settled_t o (orphan n q) h reported-orphan ∙ ap (λ r. acts act o (with_process t j r)) (reports.orphans q)

      reports-value : (m : ℕ) → Reports (λ q. with_result q (pos m) 0)
      reports-value m = record { holds = λ q. record { directory = refl; table = refl; descriptors = refl; parent = refl }; orphans = λ q. refl }

      reports-bytes : (m : ℕ) (bytes : Bytes) → Reports (λ q. with_front bytes (with_result q (pos m) 0))
      reports-bytes m bytes = record { holds = λ q. record { directory = refl; table = refl; descriptors = refl; parent = refl }; orphans = λ q. refl }

      abbrev Both : Attempt Effect → Attempt Effect → Type 0
      Both a b = AnswersTwice (answer_by_attempt s (at_call s j p) j now a) (answer_by_attempt t (at_call t j (orphan n p)) j (orphan n now) b)

      attempt-twice : (a b : Attempt Effect) → Two A act s t j n now a b → Both a b
      attempt-twice (done w (a, r)) (done v (b, q)) is =
          subst (λ i. Both (done w (a, r)) (done i (b, q))) (sym is.both.0) (subst (λ z. Both (done w (a, r)) (done w (b, z))) (sym is.both.1) (by r is.both.2))
        where
          by : (r : Reply) → is_reported A act s t j n now r → Both (done w (a, r)) (done w (b, r))
          by (returns m) reported =
              let h : Process → Process = λ q. with_result q (pos m) 0 in
              let did = is.both.3 in
              record {
                acted = did.0;
                following = h did.1;
                same = reported-same a b h (reports-value m) did.0 did.1 did.2 did.3 did.4;
                after = reported-after a b h (reports-value m) did.0 did.1 did.2 did.3 did.4;
                other = reported-other a b h (reports-value m) did.0 did.1 did.2 did.3 did.4;
                outcome = refl;
                walks = refl;
              }
          by (returns_bytes m bytes) reported =
              let h : Process → Process = λ q. with_front bytes (with_result q (pos m) 0) in
              let did = is.both.3 in
              record {
                acted = did.0;
                following = h did.1;
                same = reported-same a b h (reports-bytes m bytes) did.0 did.1 did.2 did.3 did.4;
                after = reported-after a b h (reports-bytes m bytes) did.0 did.1 did.2 did.3 did.4;
                other = reported-other a b h (reports-bytes m bytes) did.0 did.1 did.2 did.3 did.4;
                outcome = refl;
                walks = refl;
              }
          by (ends status) reported = absurd reported
          by waits reported = absurd reported
      attempt-twice (done w (a, r)) (refused v f d) is = absurd is.both
      attempt-twice (refused w e c) (done v (b, q)) is = absurd is.both
      attempt-twice (refused w e c) (refused v f d) is =
          let g : Process → Process = λ q. with_result q (negsuc 0) (errno_number e) in
          record {
            acted = None;
            following = g now;
            same = record { directory = refl; table = refl; descriptors = refl; parent = refl };
            after = update-with s j g now;
            other = ap (λ i. update (at_call t j (orphan n p)) j (λ q. with_result q (negsuc 0) (errno_number i))) is.both.1 ∙ update-with t j g (orphan n now);
            outcome = ap₂ (λ x y. Failed x y) is.both.1 is.both.2;
            walks = is.both.0;
          }

      module _ (call : Call) (comes : next p ≡ calls_for call) where
        step-s : step program_of s j ≡ step_by program_of s j p (calls_for call)
        step-s = step-is program_of s j p at ∙ ap (step_by program_of s j p) comes

        step-t : step program_of t j ≡ step_by program_of t j (orphan n p) (calls_for call)
        step-t = step-is program_of t j (orphan n p) at-following ∙ ap (step_by program_of t j (orphan n p)) (next-orphan n p ∙ ap (orphaned n) comes)

        acted-there : (o : Option A) (x : State) → process_at (acts act o x) j ≡ process_at x j
        acted-there None x = refl
        acted-there (Some a) x = seen a x

        buffers : (a b : Answered) → AnswersTwice a b → buffer_of (process_at b.after j) ≡ buffer_of (process_at a.after j)
        buffers a b twice =
            ap (λ x. buffer_of (process_at x j)) twice.other
            ∙ ap buffer_of (acted-there twice.acted (with_process t j (orphan n twice.following)) ∙ process_at-same t j (orphan n twice.following))
            ∙ sym (ap (λ x. buffer_of (process_at x j)) twice.after ∙ ap buffer_of (acted-there twice.acted (with_process s j twice.following) ∙ process_at-same s j twice.following))

        from-answers : AnswersTwice (answer program_of s j call) (answer program_of t j call) → StepsTwice (step program_of s j) (step program_of t j)
        from-answers twice = record {
          acted = twice.acted;
          following = twice.following;
          same = twice.same;
          after = ap (λ (w : Stepped). w.after) step-s ∙ twice.after;
          other = ap (λ (w : Stepped). w.after) step-t ∙ twice.other;
          outcome = ap (λ (w : Stepped). w.outcome) step-t ∙ twice.outcome ∙ sym (ap (λ (w : Stepped). w.outcome) step-s);
          lines =
              ap (λ (w : Stepped). w.lines) step-t
              ∙ lines-reported j p (orphan n p) call (answer program_of s j call) (answer program_of t j call) refl twice.outcome twice.walks (buffers (answer program_of s j call) (answer program_of t j call) twice)
              ∙ sym (ap (λ (w : Stepped). w.lines) step-s);
        }

        -- attempts that make the same change and answer the call in both states
        by-attempts : (a b : Attempt Effect) → answer program_of s j call ≡ answer_by_attempt s (at_call s j p) j now a → answer program_of t j call ≡ answer_by_attempt t (at_call t j (orphan n p)) j (orphan n now) b
            → Two A act s t j n now a b → StepsTwice (step program_of s j) (step program_of t j)
        by-attempts a b one other two =
            from-answers
            (subst (λ r. AnswersTwice r (answer program_of t j call)) (sym one) (subst (λ r. AnswersTwice (answer_by_attempt s (at_call s j p) j now a) r) (sym other) (attempt-twice a b two)))

        pub call-twice : missing_promise p.promises (needs call) ≡ None → Two A act s t j n now (effect program_of (at_call s j p) j now call) (effect program_of (at_call t j (orphan n p)) j (orphan n now) call)
            → StepsTwice (step program_of s j) (step program_of t j)
        call-twice held =
            by-attempts (effect program_of (at_call s j p) j now call) (effect program_of (at_call t j (orphan n p)) j (orphan n now) call) (answer-held program_of s j p call at held)
            (answer-held program_of t j (orphan n p) call at-following held)

        pub lacking-twice : (a : Promise) → missing_promise p.promises (needs call) ≡ Some a → is_lenient p.promises ≡ true → StepsTwice (step program_of s j) (step program_of t j)
        lacking-twice a missing lenient =
            by-attempts (refused 0 ENOSYS (ByPromise a)) (refused 0 ENOSYS (ByPromise a)) (answer-lacking program_of s j p call a at missing lenient)
            (answer-lacking program_of t j (orphan n p) call a at-following missing lenient) (two-refused A act s t j n now ENOSYS (ByPromise a))
