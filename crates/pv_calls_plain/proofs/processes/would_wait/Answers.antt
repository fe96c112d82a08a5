use Rattle.std.proofs.Common.{◌≡◌, ◌↔◌, subst}
use Rattle.std.specs.Prelude.{IsTrue}
use Rattle.pv_model.specs.Machine.{give, wait, waits}
use Rattle.pv_calls_state.specs.OfProcs.ProcessTable.{ProcessTable, state_with}
use Rattle.pv_calls_plain.proofs.processes.would_wait.Goals as goal

pub returns : goal.returns
returns c = λ me at.
    let s = c.args.parts.now in
    subst (λ (v : ProcessTable). IsTrue c.waits.result ↔ (wait (state_with s.tree s.files v) c.args.pid me ≡ give (state_with s.tree s.files v, waits))) c.processes.ensures
    (c.waits.ensures s.tree s.files me)
