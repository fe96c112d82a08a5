-- A touch that only a call can make, if it succeeds, is made by a call that succeeds.
use Rattle.std.proofs.Common.{◌≡◌, ◌≢◌, ◌∙◌, sym, ap, subst, refl, ℕ, negsuc, true, false, length, Option, None, Some}
use Rattle.std.specs.FinMap.Entries.{is_sorted}
use Rattle.std.specs.Ordering.{nat_cmp}
use Rattle.pv_model.specs.declared.call.Call.{Call}
use Rattle.pv_model.specs.declared.outcome.Outcome.{Outcome}
use Rattle.pv_model.specs.declared.outcome.Outcome.TheVariants.{Value, Text, Exited, Blocked}
use Rattle.pv_model.specs.Answer.{answer_by_reply}
use Rattle.pv_model.specs.Machine.{answer_by_attempt, at_next_line, effect, Attempt, done, refused, Bytes, with_result, end_process, Effect, Reply, returns, returns_bytes, ends, waits, errno_number, collect, needs, calls_for, next, missing_promise, Program, Process, State, process_at, with_process, Stepped, step, step_by, live, has_succeeded}
use Rattle.pv_model.specs.Step.{step_by_call}
use Rattle.pv_laws_states.specs.States.{IsValid}
use Rattle.pv_laws_states.proofs.AttemptValues.{Leads}
use Rattle.pv_laws_states.proofs.CallOutcomes.{at_call}
use Rattle.pv_laws_states.proofs.Processes.{process_at-other, update-with}
use Rattle.pv_laws_states.proofs.ValidStates.{sorted-put_number}
use Rattle.pv_laws_access.proofs.CallEffects.{continues, Did, ends-stays}
use Rattle.pv_laws_access.proofs.EffectByCall.{does-effect}
use Rattle.pv_laws_access.proofs.ProcessesAfterEnds.{step-is}
use Rattle.pv_laws_access.proofs.NextNames.{answer-does}

-- the outcome of a reply
abbrev pub outcome_of : Reply → Outcome
outcome_of (returns n) = Value n
outcome_of (returns_bytes n bytes) = Text (record { value = n; len = length bytes })
outcome_of (ends status) = Exited
outcome_of waits = Blocked

module _ (program_of : Bytes → Option Program) (s : State) (pid : ℕ) (me : Process) (call : Call) (at : process_at s pid ≡ Some me) (next_is : next me ≡ calls_for call)
    (held : missing_promise me.promises (needs call) ≡ None) where
  abbrev x : State
  x = at_call s pid me

  abbrev now : Process
  now = at_next_line me

  abbrev e : Attempt Effect
  e = effect program_of x pid now call

  pub step-answers : step program_of s pid ≡ step_by_call program_of pid me call (answer_by_attempt s x pid now e)
  step-answers = step-is program_of s pid me at ∙ ap (step_by program_of s pid me) next_is ∙ ap (step_by_call program_of pid me call) (answer-does program_of s pid me call at held)

  -- the effect of the call, after which the process continues, and the result of the step
  pub record IsDone : Type 0 where
    pub walks : ℕ
    pub after : State
    pub reply : Reply
    pub same : e ≡ done walks (after, reply)
    pub goes : continues reply ≡ true
    pub outcome : (step program_of s pid).outcome ≡ outcome_of reply
    pub leaves : (step program_of s pid).after ≡ (answer_by_reply s x pid now walks reply after).after

  outcome-by : (a : Attempt Effect) → e ≡ a → (step program_of s pid).outcome ≡ (answer_by_attempt s x pid now a).outcome
  outcome-by a same = ap (λ (w : Stepped). w.outcome) step-answers ∙ ap (λ (b : Attempt Effect). (answer_by_attempt s x pid now b).outcome) same

  leaves-by : (a : Attempt Effect) → e ≡ a → (step program_of s pid).after ≡ (answer_by_attempt s x pid now a).after
  leaves-by a same = ap (λ (w : Stepped). w.after) step-answers ∙ ap (λ (b : Attempt Effect). (answer_by_attempt s x pid now b).after) same

  returned : (walks : ℕ) (after : State) (n : ℕ) → e ≡ done walks (after, returns n) → IsDone
  returned walks after n same =
      record { walks = walks; after = after; reply = returns n; same = same; goes = refl; outcome = outcome-by (done walks (after, returns n)) same; leaves = leaves-by (done walks (after, returns n)) same }

  returned-bytes : (walks : ℕ) (after : State) (n : ℕ) (bytes : Bytes) → e ≡ done walks (after, returns_bytes n bytes) → IsDone
  returned-bytes walks after n bytes same =
      record { walks = walks; after = after; reply = returns_bytes n bytes; same = same; goes = refl; outcome = outcome-by (done walks (after, returns_bytes n bytes)) same; leaves = leaves-by (done walks (after, returns_bytes n bytes)) same }

  -- a call that succeeds has such an effect
  pub is-done : has_succeeded (step program_of s pid).outcome ≡ true → IsDone
  is-done succeeded = by e refl
    where
      fails : (a : Attempt Effect) → e ≡ a → has_succeeded (answer_by_attempt s x pid now a).outcome ≡ false → ⊥
      fails a same none = let no : true ≡ false = sym succeeded ∙ ap has_succeeded (outcome-by a same) ∙ none in cc no

      by : (a : Attempt Effect) → e ≡ a → IsDone
      by (refused walks errno cause) same = absurd (fails (refused walks errno cause) same refl)
      by (done walks (after, waits)) same = absurd (fails (done walks (after, waits)) same refl)
      by (done walks (after, ends status)) same = absurd (fails (done walks (after, ends status)) same refl)
      by (done walks (after, returns n)) same = returned walks after n same
      by (done walks (after, returns_bytes n bytes)) same = returned-bytes walks after n bytes same

  module _ (whole : IsValid s) (T : State → Type 0)
      (none : T s → ⊥)
      (own : (p q : Process) → process_at s pid ≡ Some p → q.descriptors ≡ p.descriptors → T (with_process s pid q) → ⊥)
      (over : (y : State) (me : Process) (status : ℕ) → y.tree ≡ s.tree → is_sorted nat_cmp y.processes ≡ true
      → ((j : ℕ) → j ≢ pid → process_at y j ≡ process_at s j) → T (collect (end_process y pid me status)) → ⊥) where
    ascending : is_sorted nat_cmp x.processes ≡ true
    ascending = sorted-put_number pid (live now) s.processes whole.processes.ascending

    pub succeeds : T (step program_of s pid).after → IsDone
    succeeds touch = by e refl
      where
        at-attempt : (a : Attempt Effect) → e ≡ a → T (answer_by_attempt s x pid now a).after
        at-attempt a same = subst T (leaves-by a same) touch

        by : (a : Attempt Effect) → e ≡ a → IsDone
        by (refused walks errno cause) same =
            absurd (own me (with_result now (negsuc 0) (errno_number errno)) at refl
            (subst T (update-with s pid (λ p. with_result p (negsuc 0) (errno_number errno)) now) (at-attempt (refused walks errno cause) same)))
        by (done walks (after, waits)) same = absurd (none (at-attempt (done walks (after, waits)) same))
        by (done walks (after, ends status)) same =
            let does = subst (λ (a : Attempt Effect). Leads (Did x pid now call) a) same (does-effect program_of x pid now call) in
            let stays = ends-stays x pid now call after (ends status) status does refl in
            absurd (over x now status refl ascending (λ j other. process_at-other s pid now j other)
            (subst (λ (y : State). T (collect (end_process y pid now status))) stays (at-attempt (done walks (after, ends status)) same)))
        by (done walks (after, returns n)) same = returned walks after n same
        by (done walks (after, returns_bytes n bytes)) same = returned-bytes walks after n bytes same
