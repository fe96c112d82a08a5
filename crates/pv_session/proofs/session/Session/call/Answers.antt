use Rattle.pv_calls.proofs.FirstStates.{callable}
use Rattle.std.proofs.Common.{subst, sym, ◌∙◌}
use Rattle.pv_model.specs.Machine.{call_of}
use Rattle.pv_laws_states.specs.States.{IsValid}
use Rattle.pv_session.proofs.session.Session.call.Goals as goal

pub make_call-requires-clause-call : goal.make_call-requires-clause-call
make_call-requires-clause-call c =
    let next = c.requires in
    callable c.args.self.now c.args.pid next.0 (call_of c.args.call) (subst IsValid c.self.view_is c.self.invariant.0) next.1 next.2
