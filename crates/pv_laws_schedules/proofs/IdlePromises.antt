-- Promises that no call of a program needs: a step without them has the same lines and the same effect.
use Rattle.std.proofs.Common.{◌≡◌, ◌∙◌, sym, ap, ap₂, subst, refl, ℕ, Bool, true, false, not, ◌&&◌, ◌||◌, if◌then◌else◌, eqb-true, eq-eqb, List, [], ◌∷◌, Option, Some, inl, inr}
use Rattle.std.specs.List.{list_any}
use Rattle.std.proofs.lemmas.Bool.{and_parts, not-true}
use Rattle.pv_model.specs.declared.call.Call.{Call}
use Rattle.pv_model.specs.declared.promise.Promise.{Promise}
use Rattle.pv_model.specs.declared.promise.Promise.TheVariants.{Error}
use Rattle.pv_model.specs.Machine.{Found, same_promise, Observation, Request, Requests, Bytes, needs, calls_for, next, Need, Promises, contains, is_lenient, is_met, missing_promise, Program, Process, State, process_at, run, step, states_found}
use Rattle.pv_model.specs.Answers.Observed.{is_pledge}
use Rattle.pv_model.specs.Answers.Policy.{is_idle, is_pledged_call, is_promised, needs_promise, promises_in_use}
use Rattle.pv_model.specs.Promise.{promise_bit}
use Rattle.pv_laws_states.specs.States.{IsValid}
use Rattle.pv_laws_states.proofs.ValidBySteps.{run-keeps_valid}
use Rattle.pv_laws_answers.specs.ProcessImages.{with_promises}
use Rattle.pv_laws_answers.proofs.Lists.{Among, among-any, any-among, filter-among}
use Rattle.pv_laws_classes.specs.Reduced.{reduced_found}
use Rattle.pv_laws_classes.specs.Shown.{ShownCall}
use Rattle.pv_laws_classes.proofs.ReducedProcesses.{themselves}
use Rattle.pv_laws_schedules.specs.Idle.{IdlePromisesAreIdle, IdlePromisesAreIdleReduced, LacksIdle, StepsDifferInPromises, listed_idle_promises}
use Rattle.pv_laws_schedules.specs.Policy.{calling_programs}
use Rattle.pv_laws_schedules.specs.ReducedPolicy.{reduced_calling_programs}
use Rattle.pv_laws_schedules.proofs.FewerPromises.{steps-fewer}
use Rattle.pv_laws_schedules.proofs.ShownStates.{IsSeenIn, seen-full, seen-reduced}
use Rattle.pv_laws_schedules.proofs.VisitedCalls.{programs_of, requested, of-program}

-- ---- needs

-- promises that agree on all needed promises miss the same
module _ (held set : Promises) where
  abbrev Agree : Promise → Type 0
  Agree a = contains set a ≡ contains held a

  met-same : (need : Need) → ((a : Promise) → Among a need → Agree a) → is_met (Some set) need ≡ is_met (Some held) need
  met-same [] each = refl
  met-same (a ∷ others) each = ap₂ (λ (b c : Bool). b || c) (each a (inl refl)) (met-same others (λ b has. each b (inr has)))

  missing-same : (ns : List Need) → ((need : Need) → Among need ns → (a : Promise) → Among a need → Agree a) → missing_promise (Some set) ns ≡ missing_promise (Some held) ns
  missing-same [] each = refl
  missing-same ([] ∷ ns) each = missing-same ns (λ need has. each need (inr has))
  missing-same ((a ∷ others) ∷ ns) each =
      ap₂ (λ (b : Bool) (rest : Option Promise). if b then rest else Some a) (met-same (a ∷ others) (each (a ∷ others) (inl refl))) (missing-same ns (λ need has. each need (inr has)))

-- `error` is not listed as idle
error-used : (c : Promise) → Among c promises_in_use → same_promise Error c ≡ true → ⊥
error-used c (inl e) is = let no : false ≡ true = ap (same_promise Error) (sym e) ∙ is in cc no
error-used c (inr (inl e)) is = let no : false ≡ true = ap (same_promise Error) (sym e) ∙ is in cc no
error-used c (inr (inr (inl e))) is = let no : false ≡ true = ap (same_promise Error) (sym e) ∙ is in cc no
error-used c (inr (inr (inr (inl e)))) is = let no : false ≡ true = ap (same_promise Error) (sym e) ∙ is in cc no
error-used c (inr (inr (inr (inr (inl e))))) is = let no : false ≡ true = ap (same_promise Error) (sym e) ∙ is in cc no
error-used c (inr (inr (inr (inr (inr (inl e)))))) is = let no : false ≡ true = ap (same_promise Error) (sym e) ∙ is in cc no
error-used c (inr (inr (inr (inr (inr (inr (inl e))))))) is = let no : false ≡ true = ap (same_promise Error) (sym e) ∙ is in cc no
error-used c (inr (inr (inr (inr (inr (inr (inr none))))))) is = none

module _ (rs : Requests) (held set : Promises) (lacks : LacksIdle rs held set) where
  agree-unlisted : (a : Promise) → (list_any (same_promise a) (listed_idle_promises rs) ≡ true → ⊥) → contains set a ≡ contains held a
  agree-unlisted a unlisted = lacks a ∙ by (list_any (same_promise a) (listed_idle_promises rs)) unlisted (contains held a)
    where
      by : (b : Bool) → (b ≡ true → ⊥) → (c : Bool) → (c && not b) ≡ c
      by true never c = absurd (never refl)
      by false never true = refl
      by false never false = refl

  lenient-same : is_lenient (Some set) ≡ is_lenient (Some held)
  lenient-same =
      agree-unlisted Error (λ listed.
      let c = among-any (same_promise Error) (listed_idle_promises rs) listed in
      error-used c.0 (filter-among (is_idle rs) c.0 promises_in_use c.1).0 c.2)

  -- a promise that a call of the program needs is not idle
  needed-kept : (r : Observation Request) → Among r rs → (need : Need) → Among need (needs r.item.call) → (a : Promise) → Among a need → contains set a ≡ contains held a
  needed-kept r within need has a among =
      agree-unlisted a (λ listed.
      let c = among-any (same_promise a) (listed_idle_promises rs) listed in
      let idle = (filter-among (is_idle rs) c.0 promises_in_use c.1).1 in
      let unneeded = not-true (needs_promise rs c.0) (and_parts (list_any (λ (r : Observation Request). is_pledged_call r.item && is_promised c.0 r.item.process.promises) rs) (not (needs_promise rs c.0)) idle).1 in
      let same : same_promise c.0 a ≡ true = eq-eqb (promise_bit c.0) (promise_bit a) (sym (eqb-true (promise_bit a) (promise_bit c.0) c.2)) in
      let needed : needs_promise rs c.0 ≡ true =
      any-among (λ (r : Observation Request). list_any (list_any (same_promise c.0)) (needs r.item.call)) r rs within
      (any-among (list_any (same_promise c.0)) need (needs r.item.call) has (any-among (same_promise c.0) a need among same)) in
      let no : true ≡ false = sym needed ∙ unneeded in cc no)

-- ---- steps

module _ (program_of : Bytes → Option Program) (fs : List Found) (u : State) (pid : ℕ) (p : Process) (seen : IsSeenIn program_of fs u pid) (live : process_at u pid ≡ Some p) (valid : IsValid u)
    (group : Observation Request × Requests) (listed : Among group (programs_of program_of fs)) (same : p.program ≡ group.0.item.process.program)
    (plain : (call : Call) → next p ≡ calls_for call → is_pledge call ≡ false) (held set : Promises) (pledged : p.promises ≡ Some held) (lacks : LacksIdle group.1 held set) where
  idle-step : StepsDifferInPromises (step program_of u pid) (step program_of (with_promises u pid set) pid)
  idle-step =
      steps-fewer program_of u pid p set live valid (λ call is.
      let it = requested program_of fs u pid p call seen live is in
      let within = of-program program_of it group listed same in
      let own : it.shown_by.item.call ≡ call = ap (λ (c : ShownCall). c.call) it.same in (
        plain call is,
        missing-same held set (needs call)
            (λ need has a among. needed-kept group.1 held set lacks it.shown_by within need (subst (λ (c : Call). Among need (needs c)) (sym own) has) a among)
            ∙ ap (λ (o : Option Promises). missing_promise o (needs call)) (sym pledged),
        lenient-same group.1 held set lacks ∙ ap is_lenient (sym pledged),
      ))

-- ---- the laws

pub idle-promises : IdlePromisesAreIdle
idle-promises program_of limit s group pids pid p held set it complete listed live same plain pledged lacks =
    idle-step program_of (states_found program_of limit s) (run program_of pids s).final pid p (seen-full program_of limit s it complete pids pid) live (run-keeps_valid program_of it.encodes pids s it.whole)
    group (themselves (calling_programs program_of limit s) group listed) same plain held set pledged lacks

pub idle-promises_reduced : IdlePromisesAreIdleReduced
idle-promises_reduced program_of limit s group pids pid p held set it complete listed steps live same plain pledged lacks =
    idle-step program_of (reduced_found program_of s limit) (run program_of pids s).final pid p (seen-reduced program_of limit s it complete pids pid p steps live) live
    (run-keeps_valid program_of it.encodes pids s it.whole) group (themselves (reduced_calling_programs program_of limit s) group listed) same plain held set pledged lacks
