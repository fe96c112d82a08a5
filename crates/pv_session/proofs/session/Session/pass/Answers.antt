use Rattle.std.proofs.Common.{ap, sym, subst}
use Rattle.pv_model.specs.Machine.{State, Run}
use Rattle.pv_calls.specs.OfCallsState.Changes.{PassesInside}
use Rattle.pv_session.proofs.CachedSystems.{lent-state, passed-sound}
use Rattle.pv_session.proofs.InsideRuns.{passed-is}
use Rattle.pv_session.proofs.session.Session.pass.Goals as goal

pub invariant_of-self : goal.invariant_of-self
invariant_of-self c =
    passed-sound c.self.inside.system.value c.deref_mut.result.now c.deref_mut.ensures.value c.self.invariant c.pass.new.self c.args.pid c.pass.result c.pass.ensures.made

pub returns-clause-after : goal.returns-clause-after
returns-clause-after c =
    let seen = lent-state c.self.inside.system.value c.deref_mut.result.now c.deref_mut.ensures.value c.args.self.now c.self.view_is in
    let made = subst (λ (s : State). PassesInside c.pass.result c.args.pid s c.pass.new.self) seen c.pass.ensures.made in
    sym (ap (λ (r : Run). r.final) (passed-is c.args.self.now c.pass.new.self c.args.pid c.pass.result made))

pub returns-clause-no_lines : goal.returns-clause-no_lines
returns-clause-no_lines c =
    let seen = lent-state c.self.inside.system.value c.deref_mut.result.now c.deref_mut.ensures.value c.args.self.now c.self.view_is in
    let made = subst (λ (s : State). PassesInside c.pass.result c.args.pid s c.pass.new.self) seen c.pass.ensures.made in
    ap (λ (r : Run). r.lines) (passed-is c.args.self.now c.pass.new.self c.args.pid c.pass.result made)
