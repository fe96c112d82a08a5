use Rattle.std.proofs.Common.{subst}
use Rattle.pv_procs.specs.ProcessTable.{IsProcessTable}
use Rattle.pv_procs.proofs.ForkedSlots.{reported}
use Rattle.pv_procs.proofs.processes.Processes.invariant.Goals as goal

pub returns : goal.returns
returns c =
    let i = c.self.inside in
    subst IsProcessTable c.self.view_is (reported i.slots.items i.spare.items i.programs.items i.last _ _ c.self.invariant.0 c.self.invariant.1)
