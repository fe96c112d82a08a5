use Rattle.std.proofs.Common.{◌∙◌, ap}
use Rattle.pv_procs.specs.ProcessTable.{ProcessTable, number_after}
use Rattle.pv_procs.proofs.SlotLookups.{number-seen}
use Rattle.pv_procs.proofs.processes.Processes.next_number.Goals as goal

pub returns : goal.returns
returns c =
    let i = c.self.inside in
    let found = rw c.deref.ensures.value at c.number_after.ensures in
    found ∙ number-seen i.programs.items c.args.last i.slots.items ∙ ap (λ (t : ProcessTable). number_after c.args.last t.processes) c.self.view_is
