use Rattle.std.proofs.Common.{ap, sym, subst}
use Rattle.pv_model.specs.Machine.{State, process_at}
use Rattle.pv_calls.proofs.FirstStates.{registered-one}
use Rattle.pv_calls.specs.OfCallsState.Changes.{PassesInside}
use Rattle.pv_session.proofs.CachedSystems.{lent-state, passed-sound}
use Rattle.pv_session.proofs.session.Session.register.Goals as goal

pub invariant_of-self : goal.invariant_of-self
invariant_of-self c =
    passed-sound c.self.inside.system.value c.deref_mut.result.now c.deref_mut.ensures.value c.self.invariant c.pass.new.self c.args.pid c.pass.result c.pass.ensures.made

pub returns : goal.returns
returns c =
    let seen = lent-state c.self.inside.system.value c.deref_mut.result.now c.deref_mut.ensures.value c.args.self.now c.self.view_is in
    let made = subst (λ (s : State). PassesInside c.pass.result c.args.pid s c.pass.new.self) seen c.pass.ensures.made in
    registered-one c.args.self.now c.pass.new.self c.args.pid c.pass.result c.requires c.pass.ensures.few made c.pass.ensures.whole
