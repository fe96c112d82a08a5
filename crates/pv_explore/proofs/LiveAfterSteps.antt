-- A process that is live after its step was not ended by it.
use Rattle.std.proofs.Common.{◌≡◌, ◌≢◌, ◌∙◌, sym, ap, subst, ℕ, Bool, true, false, Option, None, Some, is_some, refl}
use Rattle.std.specs.Prelude.{IsSome}
use Rattle.pv_model.specs.declared.call.Call.{Call}
use Rattle.pv_model.specs.declared.errno.Errno.TheVariants.{ENOSYS}
use Rattle.pv_model.specs.declared.outcome.Cause.TheVariants.{Promise as ByPromise}
use Rattle.pv_model.specs.declared.outcome.Outcome.TheVariants.{Killed}
use Rattle.pv_model.specs.declared.promise.Promise.{Promise}
use Rattle.pv_model.specs.Machine.{Answered, answer, answer_by_attempt, at_next_line, effect, Attempt, done, refused, end_process, Effect, returns, returns_bytes, ends, waits, program_of, collect, Next, inside, calls_for, next, Process, State, process_at, Stepped, step, step_by}
use Rattle.pv_laws_access.specs.Frame.{is_end}
use Rattle.pv_laws_access.specs.Growth.{IsInOrder}
use Rattle.pv_laws_access.proofs.EffectByCall.{does-effect}
use Rattle.pv_laws_access.proofs.ProcessesAfterEnds.{process_at-collect, ended-not_live, in_order-call, step-gone, step-is}
use Rattle.pv_laws_access.proofs.CallEffects.{Did, ends-stays}
use Rattle.pv_laws_states.proofs.AttemptValues.{Leads}
use Rattle.pv_laws_states.proofs.CallOutcomes.{at_call, by_answer}

module _ (s : State) (pid : ℕ) (order : IsInOrder s) where
  -- the process is not live after an answer that ends it
  abbrev Dies : Answered → Type 0
  Dies a = is_end a.outcome ≡ true → (q : Process) → process_at a.after pid ≡ Some q → ⊥

  module _ (me : Process) (at : process_at s pid ≡ Some me) (call : Call) where
    abbrev x : State
    x = at_call s pid me

    abbrev now : Process
    now = at_next_line me

    dies-attempt : (a : Attempt Effect) → Leads (Did x pid now call) a → Dies (answer_by_attempt s x pid now a)
    dies-attempt (done walks (after, returns n)) does ended q there = cc ended
    dies-attempt (done walks (after, returns_bytes n bytes)) does ended q there = cc ended
    dies-attempt (done walks (after, ends status)) does ended q there =
        let same = ends-stays x pid now call after (ends status) status does refl in
        ended-not_live x pid now status (in_order-call s pid me order at).ascending q
        (subst (λ (y : State). process_at (end_process y pid now status) pid ≡ Some q) same (sym (process_at-collect (end_process after pid now status) pid) ∙ there))
    dies-attempt (done walks (after, waits)) does ended q there = cc ended
    dies-attempt (refused walks errno cause) does ended q there = cc ended

  dies-answer : (call : Call) → Dies (answer program_of s pid call)
  dies-answer call =
      by_answer Dies program_of s pid call
      (λ none ended q there. cc ended)
      (λ p is missing. dies-attempt p is call (effect program_of (at_call s pid p) pid (at_next_line p) call) (does-effect program_of (at_call s pid p) pid (at_next_line p) call))
      (λ p lacks is missing lenient. dies-attempt p is call (refused 0 ENOSYS (ByPromise lacks)) tt)
      (λ p lacks is missing lenient ended q there. ended-not_live s pid (at_next_line p) 6 order.ascending q (sym (process_at-collect (end_process s pid (at_next_line p) 6) pid) ∙ there))

  dies-next : (me : Process) (n : Next) → is_end (step_by program_of s pid me n).outcome ≡ true → (q : Process) → process_at (step_by program_of s pid me n).after pid ≡ Some q → ⊥
  dies-next me (inside p) ended q there = cc ended
  dies-next me (calls_for call) ended q there = dies-answer call ended q there

  dies-step : (o : Option Process) → process_at s pid ≡ o → is_end (step program_of s pid).outcome ≡ true → (q : Process) → process_at (step program_of s pid).after pid ≡ Some q → ⊥
  dies-step None gone ended q there = let same = ap (λ (w : Stepped). is_end w.outcome) (step-gone program_of s pid gone) in let bad : false ≡ true = sym same ∙ ended in cc bad
  dies-step (Some me) at ended q there =
      let same = step-is program_of s pid me at in
      dies-next me (next me) (ap (λ (w : Stepped). is_end w.outcome) (sym same) ∙ ended) q (ap (λ (w : Stepped). process_at w.after pid) (sym same) ∙ there)

  pub goes-on : IsSome (process_at (step program_of s pid).after pid) → is_end (step program_of s pid).outcome ≡ false
  goes-on alive = by (is_end (step program_of s pid).outcome) refl (process_at (step program_of s pid).after pid) refl alive
    where
      by : (b : Bool) → is_end (step program_of s pid).outcome ≡ b → (o : Option Process) → process_at (step program_of s pid).after pid ≡ o → IsSome o → b ≡ false
      by false is o there some = refl
      by true is None there some = cc some
      by true is (Some q) there some = absurd (dies-step (process_at s pid) refl is q there)

  -- in particular it was not killed
  pub not-killed : IsSome (process_at (step program_of s pid).after pid) → (a : Promise) → (step program_of s pid).outcome ≢ Killed a
  not-killed alive a dies = let bad : true ≡ false = sym (ap is_end dies) ∙ goes-on alive in cc bad
