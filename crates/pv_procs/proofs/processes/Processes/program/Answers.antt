use Rattle.std.proofs.Common.{◌∙◌, ap, Some, option_map, arith}
use Rattle.pv_model.specs.Machine.{Process}
use Rattle.pv_procs.proofs.SlotLookups.{found-at, live-slot, process-at, status-at}
use Rattle.pv_procs.proofs.EndedSlots.{program-within}
use Rattle.pv_procs.proofs.ContextSteps.{program-read}
use Rattle.pv_procs.proofs.processes.Processes.program.Goals as goal

pub live_index-k-requires-clause-ascends : goal.live_index-k-requires-clause-ascends
live_index-k-requires-clause-ascends c = rw c.deref.ensures.value c.self.invariant.0.ascending

pub live_index-k-requires-clause-there : goal.live_index-k-requires-clause-there
live_index-k-requires-clause-there c =
    let i = c.self.inside in
    rw c.deref.ensures.value (live-slot i.slots.items i.programs.items i.last c.args.self.now c.self.view_is c.args.pid c.requires)

pub returns : goal.returns
returns c =
    let i = c.self.inside in
    let k = c.live_index-k.result in
    let slot = c.index-slot.result.now in
    let found = rw c.deref.ensures.value at c.live_index-k.ensures in
    let at = found-at i.slots.items c.args.pid k slot found c.index-slot.ensures in
    let lives = status-at i.slots.items i.programs.items i.last c.args.self.now c.self.view_is c.args.pid c.self.invariant.0.ascending k slot at c.requires in
    let table = c.self.invariant.0.table in
    let below = program-within i.slots.items i.programs.items i.last c.self.invariant.0 c.args.pid k slot at lives in
    let program = program-read i.programs.items slot.program c.index.result.now (omega (arith, below, table)) c.index.ensures in
    let process = process-at i.slots.items i.programs.items i.last c.args.self.now c.self.view_is c.args.pid c.self.invariant.0.ascending k slot at c.requires in
    ap (option_map (λ (me : Process). me.program)) process ∙ ap Some program
