-- How a step of a process without a promise ends, and how `error` changes this.
use Rattle.std.proofs.Common.{◌≡◌, ◌≢◌, ℕ, true, false, Option, None, Some, refl, ap, sym, subst, ◌∙◌}
use Rattle.pv_model.specs.declared.call.Call.{Call}
use Rattle.pv_model.specs.declared.call.Call.TheVariants.{Pledge}
use Rattle.pv_model.specs.declared.errno.Errno.TheVariants.{EPERM, EINVAL, ENOSYS}
use Rattle.pv_model.specs.declared.outcome.Cause.{Cause}
use Rattle.pv_model.specs.declared.outcome.Cause.TheVariants.{Promise as ByPromise}
use Rattle.pv_model.specs.declared.outcome.Outcome.TheVariants.{Failed, Killed}
use Rattle.pv_model.specs.declared.promise.Promise.{Promise}
use Rattle.pv_model.specs.Machine.{answer, answer_by_attempt, at_next_line, effect, Attempt, done, refused, after_walks, ◌>>=◌, demand, Bytes, asked_promises, unless_refused, pledge, Effect, returns, returns_bytes, ends, waits, needs, Next, inside, calls_for, next, Promises, narrow_promises, is_lenient, missing_promise, Program, Process, State, process_at, Stepped, step, step_by}
use Rattle.pv_model.specs.Promises.{read_promises}
use Rattle.pv_laws_states.proofs.CallOutcomes.{at_call, by_answer}
use Rattle.pv_laws_access.proofs.ProcessesAfterEnds.{step-is, not-killed}
use Rattle.pv_laws_access.specs.Lacking.{MissingPromiseDecides}

module _ (program_of : Bytes → Option Program) (s : State) (pid : ℕ) (p : Process) (at : process_at s pid ≡ Some p) where
  one : (me : Process) → process_at s pid ≡ Some me → me ≡ p
  one me found = let both : Some me ≡ Some p = sym found ∙ at in cc both

  module _ (call : Call) where
    missing-reported : (a : Promise) → missing_promise p.promises (needs call) ≡ Some a → is_lenient p.promises ≡ true → (answer program_of s pid call).outcome ≡ Failed ENOSYS (ByPromise a)
    missing-reported a lacks lenient =
        by_answer (λ x. x.outcome ≡ Failed ENOSYS (ByPromise a)) program_of s pid call
        (λ gone. let both : None ≡ Some p = sym gone ∙ at in cc both)
        (λ me found met. let both : None ≡ Some a = sym met ∙ ap (λ (x : Process). missing_promise x.promises (needs call)) (one me found) ∙ lacks in cc both)
        (λ me b found missing under.
        let both : Some b ≡ Some a = sym missing ∙ ap (λ (x : Process). missing_promise x.promises (needs call)) (one me found) ∙ lacks in
        let same : b ≡ a = cc both in ap (λ x. Failed ENOSYS (ByPromise x)) same)
        (λ me b found missing under. let both : false ≡ true = sym under ∙ ap (λ (x : Process). is_lenient x.promises) (one me found) ∙ lenient in cc both)

    missing-kills : (a : Promise) → missing_promise p.promises (needs call) ≡ Some a → is_lenient p.promises ≡ false → (answer program_of s pid call).outcome ≡ Killed a
    missing-kills a lacks strict =
        by_answer (λ x. x.outcome ≡ Killed a) program_of s pid call
        (λ gone. let both : None ≡ Some p = sym gone ∙ at in cc both)
        (λ me found met. let both : None ≡ Some a = sym met ∙ ap (λ (x : Process). missing_promise x.promises (needs call)) (one me found) ∙ lacks in cc both)
        (λ me b found missing under. let both : true ≡ false = sym under ∙ ap (λ (x : Process). is_lenient x.promises) (one me found) ∙ strict in cc both)
        (λ me b found missing under.
        let both : Some b ≡ Some a = sym missing ∙ ap (λ (x : Process). missing_promise x.promises (needs call)) (one me found) ∙ lacks in
        let same : b ≡ a = cc both in ap (λ x. Killed x) same)

    killed-lacks : (a : Promise) → (answer program_of s pid call).outcome ≡ Killed a → (missing_promise p.promises (needs call) ≡ Some a) × (is_lenient p.promises ≡ false)
    killed-lacks a =
        by_answer (λ x. x.outcome ≡ Killed a → (missing_promise p.promises (needs call) ≡ Some a) × (is_lenient p.promises ≡ false)) program_of s pid call
        (λ gone is. cc is)
        (λ me found met is. absurd (not-killed s (at_call s pid me) pid (at_next_line me) (effect program_of (at_call s pid me) pid (at_next_line me) call) a is))
        (λ me b found missing under is. cc is)
        (λ me b found missing under is.
        let same : b ≡ a = cc is in
        (ap (λ (x : Process). missing_promise x.promises (needs call)) (sym (one me found)) ∙ missing ∙ ap Some same, ap (λ (x : Process). is_lenient x.promises) (sym (one me found)) ∙ under))

  by-call : (call : Call) → next p ≡ calls_for call → (step program_of s pid).outcome ≡ (answer program_of s pid call).outcome
  by-call call is = ap (λ (w : Stepped). w.outcome) (step-is program_of s pid p at ∙ ap (step_by program_of s pid p) is)

  pub missing-decides : (call : Call) → next p ≡ calls_for call → MissingPromiseDecides program_of s pid p call
  missing-decides call is = record {
    reported = λ a lacks lenient. by-call call is ∙ missing-reported call a lacks lenient;
    killed = λ a lacks strict. by-call call is ∙ missing-kills call a lacks strict;
    else_lives = λ a dies. killed-lacks call a (sym (by-call call is) ∙ dies);
  }

  pub error-spares : (a : Promise) → is_lenient p.promises ≡ true → ¬ ((step program_of s pid).outcome ≡ Killed a)
  error-spares a lenient dies = by (next p) refl
    where
      by : (n : Next) → next p ≡ n → ⊥
      by (inside q) is = let reported : (step program_of s pid).outcome ≡ _ = ap (λ (w : Stepped). w.outcome) (step-is program_of s pid p at ∙ ap (step_by program_of s pid p) is) in cc
      by (calls_for call) is = let both = killed-lacks call a (sym (by-call call is) ∙ dies) in let strict = both.1 in cc

  -- ---- a pledge under error

  -- no refusal by EPERM
  abbrev Spares : {A : Type 0} → Attempt A → Type 0
  Spares (done walks value) = Unit {0}
  Spares (refused walks errno cause) = errno ≢ EPERM

  spares-after : {A : Type 0} (n : ℕ) (a : Attempt A) → Spares a → Spares (after_walks n a)
  spares-after n (done walks value) is = tt
  spares-after n (refused walks errno cause) is = is

  spares-bind : {A B : Type 0} (a : Attempt A) (onward : A → Attempt B) → Spares a → ((value : A) → Spares (onward value)) → Spares (a >>= onward)
  spares-bind (done walks value) onward is then' = spares-after walks (onward value) (then' value)
  spares-bind (refused walks errno cause) onward is then' = is

  spares-asked : (text : Option Bytes) → Spares (asked_promises text)
  spares-asked None = tt
  spares-asked (Some text) = by (read_promises text)
    where
      by : (o : Option Promises) → Spares (demand EINVAL o >>= (λ set. Rattle.pv_model.specs.Attempt.give (Some set)))
      by None = λ same. cc same
      by (Some set) = tt

  spares-narrowed : (held asked : Option Promises) → Spares (unless_refused (narrow_promises true held asked))
  spares-narrowed held None = tt
  spares-narrowed None (Some asked) = tt
  spares-narrowed (Some held) (Some asked) = tt

  spares-pledge : (x : State) (me : Process) (promises execpromises : Option Bytes) → is_lenient me.promises ≡ true → Spares (pledge x pid me promises execpromises)
  spares-pledge x me promises execpromises lenient =
      spares-bind (asked_promises promises) _ (spares-asked promises) (λ asked.
      spares-bind (asked_promises execpromises) _ (spares-asked execpromises) (λ exec_asked.
      spares-bind (unless_refused (narrow_promises (is_lenient me.promises) me.promises asked)) _
      (subst (λ b. Spares (unless_refused (narrow_promises b me.promises asked))) (sym lenient) (spares-narrowed me.promises asked)) (λ preserved.
      spares-bind (unless_refused (narrow_promises (is_lenient me.promises) me.execpromises exec_asked)) _
      (subst (λ b. Spares (unless_refused (narrow_promises b me.execpromises exec_asked))) (sym lenient) (spares-narrowed me.execpromises exec_asked)) (λ exec_preserved. tt))))

  not-refused : (before x : State) (me : Process) (attempt : Attempt Effect) (cause : Cause) → Spares attempt → (answer_by_attempt before x pid me attempt).outcome ≡ Failed EPERM cause → ⊥
  not-refused before x me (done walks (after, returns n)) cause spares is = cc is
  not-refused before x me (done walks (after, returns_bytes n bytes)) cause spares is = cc is
  not-refused before x me (done walks (after, ends status)) cause spares is = cc is
  not-refused before x me (done walks (after, waits)) cause spares is = cc is
  not-refused before x me (refused walks errno why) cause spares is = let same : errno ≡ EPERM = cc is in spares same

  pub error-narrows : (promises execpromises : Option Bytes) (cause : Cause) → is_lenient p.promises ≡ true → next p ≡ calls_for (Pledge promises execpromises)
      → ¬ ((step program_of s pid).outcome ≡ Failed EPERM cause)
  unfolding effect
  error-narrows promises execpromises cause lenient is fails =
      by_answer (λ x. x.outcome ≡ Failed EPERM cause → ⊥) program_of s pid (Pledge promises execpromises)
      (λ gone reported. cc reported)
      (λ me found met reported.
      not-refused s (at_call s pid me) (at_next_line me) (pledge (at_call s pid me) pid (at_next_line me) promises execpromises) cause
      (spares-pledge (at_call s pid me) (at_next_line me) promises execpromises (ap (λ (x : Process). is_lenient x.promises) (one me found) ∙ lenient)) reported)
      (λ me b found missing under reported. cc reported)
      (λ me b found missing under reported. cc reported)
      (sym (by-call (Pledge promises execpromises) is) ∙ fails)
