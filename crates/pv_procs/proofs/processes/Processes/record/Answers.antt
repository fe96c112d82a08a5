use Rattle.std.proofs.Common.{ap, option_map}
use Rattle.pv_procs.specs.Parts.{record_of}
use Rattle.pv_procs.proofs.SlotLookups.{found-at, live-slot, process-at}
use Rattle.pv_procs.proofs.processes.Processes.record.Goals as goal

pub live_index-k-requires-clause-ascends : goal.live_index-k-requires-clause-ascends
live_index-k-requires-clause-ascends c = rw c.deref.ensures.value c.self.invariant.0.ascending

pub live_index-k-requires-clause-there : goal.live_index-k-requires-clause-there
live_index-k-requires-clause-there c =
    let i = c.self.inside in
    rw c.deref.ensures.value (live-slot i.slots.items i.programs.items i.last c.args.self.now c.self.view_is c.args.pid c.requires)

pub returns : goal.returns
returns c =
    let i = c.self.inside in
    let found = rw c.deref.ensures.value at c.live_index-k.ensures in
    let at = found-at i.slots.items c.args.pid c.live_index-k.result c.index.result.now found c.index.ensures in
    rw c.get.ensures (ap (option_map record_of) (process-at i.slots.items i.programs.items i.last c.args.self.now c.self.view_is c.args.pid c.self.invariant.0.ascending c.live_index-k.result c.index.result.now at c.requires))
