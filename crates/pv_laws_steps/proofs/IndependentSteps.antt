-- Steps that depend only on their own process, before and after a step of another.
use Rattle.std.proofs.Common.{◌≡◌, ◌≢◌, ℕ, Bool, true, false, if◌then◌else◌, Option, None, Some, refl, ap, sym, subst, ◌∙◌}
use Rattle.pv_model.specs.declared.call.Call.{Call}
use Rattle.pv_model.specs.declared.call.Call.TheVariants as TheCall
use Rattle.pv_model.specs.declared.errno.Errno.TheVariants.{EINVAL, ENOSYS}
use Rattle.pv_model.specs.declared.outcome.Cause.TheVariants.{Plain, Promise as ByPromise}
use Rattle.pv_model.specs.declared.outcome.Outcome.TheVariants.{Killed}
use Rattle.pv_model.specs.declared.promise.Promise.{Promise}
use Rattle.pv_model.specs.Machine.{answer, answer_of, answer_where, answer_by_attempt, at_next_line, effect, Attempt, done, refused, Bytes, end_process, Effect, returns, collect, needs, Next, inside, calls_for, next, missing_promise, is_lenient, Program, Process, State, process_at, with_process, Stepped, step, step_by}
use Rattle.pv_laws_states.specs.States.{EncodesPrograms, IsValid}
use Rattle.pv_laws_states.proofs.ValidBySteps.{IsGoodNext, good-next}
use Rattle.pv_laws_states.proofs.CallOutcomes.{at_call}
use Rattle.pv_laws_states.proofs.Processes.{with_process-twice}
use Rattle.pv_laws_states.proofs.ProcessInsides.{SameHolds}
use Rattle.pv_laws_runs.proofs.OfLawsAccess.ProcessesAfterEnds.{step-is}
use Rattle.pv_laws_steps.specs.Beside.{with_change, become}
use Rattle.pv_laws_steps.specs.Commuting.{Commute, depends_on_own_process, IsOwnCallIfAllowed, IsOwnStepAlone}
use Rattle.pv_laws_steps.proofs.ChangedPairs.{SteppedPair}
use Rattle.pv_laws_steps.proofs.ParentIndependence.{orphan, orphaned, next-orphan}
use Rattle.pv_laws_steps.proofs.ExchangedSteps.{acts, Two, two-bind, two-refused, StepsTwice, after_k, at-following, heir, passes-by, commute-steps, call-twice, lacking-twice}

-- such a step makes no change outside its process
abbrev pub no_act : ⊥ → State → State
no_act a = absurd a

-- ---- calls

module _ (s t : State) (j n : ℕ) (now : Process) where
  abbrev x : State
  x = with_process s j now

  abbrev y : State
  y = with_process t j (orphan n now)

  abbrev T : Attempt Effect → Attempt Effect → Type 0
  T = Two ⊥ no_act s t j n now

  two-own : (m : ℕ) (p : Process) → SameHolds now p → T (done 0 (with_process x j p, returns m)) (done 0 (with_process y j (orphan n p), returns m))
  two-own m p same = record { both = (refl, refl, tt, (None, p, same, with_process-twice s j now p, with_process-twice t j (orphan n now) (orphan n p))) }

  holds-same : (p : Process) → p.directory ≡ now.directory → p.table ≡ now.table → p.descriptors ≡ now.descriptors → p.parent ≡ now.parent → SameHolds now p
  holds-same p directory table descriptors parent = record { directory = directory; table = table; descriptors = descriptors; parent = parent }

  ruleset parts = (two-bind, two-own, two-refused, holds-same, refl)

  alone-two : (program_of : Bytes → Option Program) (call : Call) → depends_on_own_process call ≡ true → T (effect program_of x j now call) (effect program_of y j (orphan n now) call)
  unfolding effect
  alone-two program_of TheCall.GetPid is = record { both = (refl, refl, tt, (None, now, holds-same now refl refl refl refl, refl, refl)) }
  alone-two program_of (TheCall.Pledge promises execpromises) is = search parts depth 20
  alone-two program_of (TheCall.Unveil None None) is = two-own 0 (record now { locked = true }) (holds-same (record now { locked = true }) refl refl refl refl)
  alone-two program_of (TheCall.Unveil None (Some text)) is = two-refused ⊥ no_act s t j n now EINVAL Plain
  alone-two program_of (TheCall.Unveil (Some path) None) is = two-refused ⊥ no_act s t j n now EINVAL Plain
  alone-two program_of call is = cc is

-- ---- steps

module _ (program_of : Bytes → Option Program) (encodes : EncodesPrograms program_of) (s : State) (j k : ℕ) (p : Process) (whole : IsValid s) (apart : j ≢ k) (at : process_at s j ≡ Some p) where
  abbrev t : State
  t = after_k program_of encodes s j k p whole apart at

  abbrev n : ℕ
  n = heir program_of encodes s j k p whole apart at

  abbrev Twice : Type 0
  Twice = StepsTwice program_of encodes s j k p whole apart at ⊥ no_act (step program_of s j) (step program_of t j)

  at_t : process_at t j ≡ Some (orphan n p)
  at_t = at-following program_of encodes s j k p whole apart at

  alone-twice : (m : Next) → next p ≡ m → IsOwnStepAlone p m → Twice
  alone-twice (inside q) is lone =
      let good : IsGoodNext p (inside q) = subst (IsGoodNext p) is (good-next p (whole.processes.running j p at)) in
      let one : step program_of s j ≡ step_by program_of s j p (inside q) = step-is program_of s j p at ∙ ap (step_by program_of s j p) is in
      let two : step program_of t j ≡ step_by program_of t j (orphan n p) (inside (orphan n q)) = step-is program_of t j (orphan n p) at_t ∙ ap (step_by program_of t j (orphan n p)) (next-orphan n p ∙ ap (orphaned n) is) in
      record {
        acted = None;
        following = q;
        same = good.1;
        after = ap (λ (w : Stepped). w.after) one;
        other = ap (λ (w : Stepped). w.after) two;
        outcome = ap (λ (w : Stepped). w.outcome) two ∙ sym (ap (λ (w : Stepped). w.outcome) one);
        lines = ap (λ (w : Stepped). w.lines) two ∙ sym (ap (λ (w : Stepped). w.lines) one);
      }
  alone-twice (calls_for call) is lone = by (missing_promise p.promises (needs call)) refl lone
    where
      by : (o : Option Promise) → missing_promise p.promises (needs call) ≡ o → IsOwnCallIfAllowed p call o → Twice
      by None held lone =
          call-twice program_of encodes s j k p whole apart at ⊥ no_act (λ a z. absurd a) (λ a q h same. absurd a) (λ a q h same. absurd a) call is held (alone-two s t j n (at_next_line p) program_of call lone)
      by (Some a) missing lenient = lacking-twice program_of encodes s j k p whole apart at ⊥ no_act (λ a z. absurd a) (λ a q h same. absurd a) (λ a q h same. absurd a) call is a missing lenient

  pub alone-passes : (o : Option ⊥) (q : Process) → SameHolds p q
      → SteppedPair (λ x. acts no_act o (with_change x j (become q))) (step program_of s k) (step program_of (acts no_act o (with_change s j (become q))) k)
  alone-passes None q same = passes-by program_of encodes s j k p whole apart at q same
  alone-passes (Some a) q same = absurd a

  pub alone-commutes : IsOwnStepAlone p (next p) → Commute program_of s j k
  alone-commutes lone = commute-steps program_of encodes s j k p whole apart at ⊥ no_act (alone-twice (next p) refl lone) alone-passes

-- the second step may be the one that depends only on its process
pub lone-commute : (program_of : Bytes → Option Program) → EncodesPrograms program_of → (s : State) (j k : ℕ) (p : Process) → IsValid s → j ≢ k → process_at s k ≡ Some p → IsOwnStepAlone p (next p)
    → Commute program_of s j k
lone-commute program_of encodes s j k p whole apart at lone =
    let is = alone-commutes program_of encodes s k j p whole (λ same. apart (sym same)) at lone in record { first = is.second; second = is.first; after = sym is.after }

-- a call that does not kill lacks no promise, or fails for the missing one
pub by-promise : (P : Type 0) (program_of : Bytes → Option Program) (s : State) (j : ℕ) (p : Process) (call : Call) → process_at s j ≡ Some p → next p ≡ calls_for call → ((a : Promise) → (step program_of s j).outcome ≢ Killed a)
    → ((a : Promise) → missing_promise p.promises (needs call) ≡ Some a → is_lenient p.promises ≡ true → P) → (missing_promise p.promises (needs call) ≡ None → P) → P
unfolding answer
by-promise P program_of s j p call at comes alive lacks held = by (missing_promise p.promises (needs call)) refl
  where
    of : (a : Promise) → missing_promise p.promises (needs call) ≡ Some a → (b : Bool) → is_lenient p.promises ≡ b → P
    of a missing true lenient = lacks a missing lenient
    of a missing false kills =
        absurd (alive a
        (ap (λ (w : Stepped). w.outcome) (step-is program_of s j p at ∙ ap (step_by program_of s j p) comes)
        ∙ ap (λ o. (answer_of program_of s j call o).outcome) at
        ∙ ap (λ o. (answer_where program_of s (at_call s j p) j (at_next_line p) call o).outcome) missing
        ∙ ap (λ b. (if b then answer_by_attempt s (at_call s j p) j (at_next_line p) (refused 0 ENOSYS (ByPromise a)) else record { after = collect (end_process s j (at_next_line p) 6); outcome = Killed a; walks = 0 }).outcome) kills))

    by : (o : Option Promise) → missing_promise p.promises (needs call) ≡ o → P
    by None is = held is
    by (Some a) missing = of a missing (is_lenient p.promises) refl

-- a call that lacks a promise depends only on its process, unless it kills
pub commute-where : (program_of : Bytes → Option Program) → EncodesPrograms program_of → (s : State) (j k : ℕ) (p : Process) (call : Call) → IsValid s → j ≢ k → process_at s j ≡ Some p → next p ≡ calls_for call
    → ((a : Promise) → (step program_of s j).outcome ≢ Killed a) → (missing_promise p.promises (needs call) ≡ None → Commute program_of s j k) → Commute program_of s j k
commute-where program_of encodes s j k p call whole apart at comes alive held =
    by-promise (Commute program_of s j k) program_of s j p call at comes alive
    (λ a missing lenient. alone-commutes program_of encodes s j k p whole apart at (subst (IsOwnStepAlone p) (sym comes) (subst (IsOwnCallIfAllowed p call) (sym missing) lenient))) held
