use Rattle.std.proofs.Common.{ap, sym, ◌∙◌, subst}
use Rattle.pv_calls.proofs.FirstStates.{callable}
use Rattle.pv_calls.specs.OfProcs.declared.processes.Fetched.TheVariants.{Gone, Register}
use Rattle.pv_laws_states.specs.States.{IsValid}
use Rattle.pv_model.specs.Machine.{call_of, program_of, State, Stepped}
use Rattle.pv_session.specs.Running.{stepped}
use Rattle.pv_calls.proofs.OfLawsAccess.JustifiedReads.{all-justified}
use Rattle.pv_session.proofs.CachedSystems.{lent-state, registered-sound}
use Rattle.pv_session.proofs.StepRestraints.{child, others, own}
use Rattle.pv_session.proofs.MachineSteps.{Asks, called-after, called-outcome, step-gone, inside-after, inside-outcome}
use Rattle.pv_session.proofs.session.Session.step.Goals as goal
use Rattle.pv_session.proofs.session.Session.step.Goals.{in-Gone, in-Register, in-Call+in_ok-make_call-in-Call}

pub make_call-requires-clause-call : goal.make_call-requires-clause-call
make_call-requires-clause-call c =
    let seen = lent-state c.self.inside.system.value c.deref_mut-system.result.now c.deref_mut-system.ensures.value c.args.self.now c.self.view_is in
    let next = c.in-Call.ensures.0 in
    callable c.deref_mut-system.result.now.parts c.args.pid next.0 (call_of c.in-Call.call) (subst IsValid (c.self.view_is ∙ sym seen) c.self.invariant.0) next.1 next.2

pub returns-in_err-make_call-in-Call-clause-justified : goal.returns-in_err-make_call-in-Call-clause-justified
returns-in_err-make_call-in-Call-clause-justified c = all-justified program_of c.args.self.now c.args.pid (subst IsValid c.self.view_is c.self.invariant.0)

pub invariant_of-self-2 : goal.invariant_of-self-2
invariant_of-self-2 c =
    let kept = registered-sound c.self.inside.system.value c.deref_mut-system.result.now c.deref_mut-system.ensures.value c.self.invariant c.step_or_fetch.new.self c.args.pid in
    elim c.match-step_or_fetch.branch [
      | in-Gone w ↦ rw w.self-inside-is (kept Gone w.in-Gone.ensures)
      | in-Register w ↦ rw w.self-inside-is (kept Register w.in-Register.ensures)
      | in-Call+in_ok-make_call-in-Call w ↦ rw w.self-inside-is (w.make_call.ensures.whole, w.make_call.ensures.agrees)
    ]

pub returns-clause-after : goal.returns-clause-after
returns-clause-after c =
    let old = c.deref_mut-system.result.now.parts in
    let s = c.step_or_fetch.new.self in
    let seen = lent-state c.self.inside.system.value c.deref_mut-system.result.now c.deref_mut-system.ensures.value c.args.self.now c.self.view_is in
    elim c.match-step_or_fetch.branch [
      | in-Gone w ↦
          let gone = w.in-Gone.ensures in
          rw (w.result-is, w.self-inside-is) (gone.1 ∙ sym (ap (λ (x : Stepped). x.after) (step-gone old c.args.pid gone.0)) ∙ ap (λ t. (stepped t c.args.pid).after) seen)
      | in-Register w ↦
          rw (w.result-is, w.self-inside-is) (inside-after old c.args.pid s w.in-Register.ensures ∙ ap (λ t. (stepped t c.args.pid).after) seen)
      | in-Call+in_ok-make_call-in-Call w ↦
          let comes = w.in-Call.ensures in
          let asks = subst (λ (t : State). Asks t c.args.pid (call_of w.in-Call.call)) (sym comes.1) comes.0 in
          let made = w.in_ok-make_call-in-Call in
          rw (w.result-is, w.self-inside-is)
          (called-after s c.args.pid (call_of w.in-Call.call) w.make_call.new.system.parts made.field-0 asks made.ensures.answered ∙ ap (λ t. (stepped t c.args.pid).after) (comes.1 ∙ seen))
    ]

pub returns-clause-outcome : goal.returns-clause-outcome
returns-clause-outcome c =
    let old = c.deref_mut-system.result.now.parts in
    let s = c.step_or_fetch.new.self in
    let seen = lent-state c.self.inside.system.value c.deref_mut-system.result.now c.deref_mut-system.ensures.value c.args.self.now c.self.view_is in
    elim c.match-step_or_fetch.branch [
      | in-Gone w ↦ rw w.result-is (sym (ap (λ (x : Stepped). x.outcome) (step-gone old c.args.pid w.in-Gone.ensures.0)) ∙ ap (λ t. (stepped t c.args.pid).outcome) seen)
      | in-Register w ↦ rw w.result-is (inside-outcome old c.args.pid s w.in-Register.ensures ∙ ap (λ t. (stepped t c.args.pid).outcome) seen)
      | in-Call+in_ok-make_call-in-Call w ↦
          let comes = w.in-Call.ensures in
          let asks = subst (λ (t : State). Asks t c.args.pid (call_of w.in-Call.call)) (sym comes.1) comes.0 in
          let made = w.in_ok-make_call-in-Call in
          rw w.result-is
          (called-outcome s c.args.pid (call_of w.in-Call.call) w.make_call.new.system.parts made.field-0 asks made.ensures.answered ∙ ap (λ t. (stepped t c.args.pid).outcome) (comes.1 ∙ seen))
    ]

pub returns-clause-justified : goal.returns-clause-justified
returns-clause-justified c = all-justified program_of c.args.self.now c.args.pid (subst IsValid c.self.view_is c.self.invariant.0)

pub returns-clause-own : goal.returns-clause-own
returns-clause-own c = own c.args.self.now c.args.pid (subst IsValid c.self.view_is c.self.invariant.0) _ _ (returns-clause-after c) (returns-clause-outcome c)

pub returns-clause-others : goal.returns-clause-others
returns-clause-others c = others c.args.self.now c.args.pid (subst IsValid c.self.view_is c.self.invariant.0) _ _ (returns-clause-after c)

pub returns-clause-child : goal.returns-clause-child
returns-clause-child c = child c.args.self.now c.args.pid (subst IsValid c.self.view_is c.self.invariant.0) _ _ (returns-clause-after c) (returns-clause-outcome c)
