use Rattle.std.proofs.Common.{◌∙◌, sym, ap, Some}
use Rattle.pv_procs.specs.ProcessTable.{ended_process}
use Rattle.pv_procs.specs.Slots.{shared_program_at}
use Rattle.pv_procs.proofs.SlotLookups.{found-at, seen-none, seen-at, ended-entry}
use Rattle.pv_procs.proofs.processes.Processes.ended.Goals as goal

pub returns-in-Some : goal.returns-in-Some
returns-in-Some c =
    let i = c.self.inside in
    let found = rw c.deref.ensures.value at (sym c.index_of.ensures ∙ c.in-Some.is) in
    let slot = c.index.result.now in
    let at = found-at i.slots.items c.args.pid c.in-Some.k slot found c.index.ensures in
    c.left_of.ensures
    ∙ sym (ap ended_process (seen-at i.slots.items i.programs.items i.last c.args.self.now c.self.view_is c.args.pid c.self.invariant.0.ascending c.in-Some.k slot at)
    ∙ ended-entry slot (shared_program_at i.programs.items slot.program) slot.status)

pub returns-in-None : goal.returns-in-None
returns-in-None c =
    let i = c.self.inside in
    let none = rw c.deref.ensures.value at (sym c.index_of.ensures ∙ c.in-None.is) in
    sym (ap ended_process (seen-none i.slots.items i.programs.items i.last c.args.self.now c.self.view_is c.args.pid none))
