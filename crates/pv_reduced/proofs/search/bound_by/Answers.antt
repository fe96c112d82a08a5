use Rattle.std.proofs.Common.{ap}
use Rattle.pv_state_encoding.specs.OfProcs.ProcessTable.{process_in}
use Rattle.pv_reduced.proofs.NextStepBounds.{bound-register}
use Rattle.pv_reduced.proofs.search.bound_by.Goals as goal

pub returns-in-Register : goal.returns-in-Register
returns-in-Register c = bound-register c.args.state.now c.args.pid (process_in c.processes.result.now c.args.pid) (ap (λ ps. process_in ps c.args.pid) c.processes.ensures) c.in-Register.ensures
