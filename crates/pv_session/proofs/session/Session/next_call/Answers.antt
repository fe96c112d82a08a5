use Rattle.std.proofs.Common.{subst}
use Rattle.pv_calls.specs.OfProcs.Turns.{IsNextCall}
use Rattle.pv_session.proofs.MachineSteps.{lent-process}
use Rattle.pv_session.proofs.session.Session.next_call.Goals as goal

pub returns : goal.returns
returns c =
    subst (IsNextCall c.next_call.result)
    (lent-process c.args.self.now c.parts.result.now c.processes.result.now c.args.pid c.parts.ensures.value c.processes.ensures) c.next_call.ensures
