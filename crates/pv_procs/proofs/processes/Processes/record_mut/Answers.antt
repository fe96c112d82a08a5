use Rattle.std.proofs.Common.{ap, refl, option_map}
use Rattle.pv_procs.specs.Parts.{record_of, with_record}
use Rattle.pv_procs.proofs.SlotLookups.{found-at, live-slot, status-at, process-at, changed-at}
use Rattle.pv_procs.proofs.SlotInvariant.{preserved-set, roomy-set}
use Rattle.pv_procs.proofs.processes.Processes.record_mut.Goals as goal

pub live_index-k-requires-clause-ascends : goal.live_index-k-requires-clause-ascends
live_index-k-requires-clause-ascends c = rw c.deref.ensures.value c.self.invariant.0.ascending

pub live_index-k-requires-clause-there : goal.live_index-k-requires-clause-there
live_index-k-requires-clause-there c =
    let i = c.self.inside in
    rw c.deref.ensures.value (live-slot i.slots.items i.programs.items i.last c.args.self.now c.self.view_is c.args.pid c.requires)

pub invariant_of-self-lent : goal.invariant_of-self-lent
invariant_of-self-lent c = λ w.
    let i = c.self.inside in
    let found = rw c.deref.ensures.value at c.live_index-k.ensures in
    let slot = c.index_mut.result.now in
    let at = found-at i.slots.items c.args.pid c.live_index-k.result slot found c.index_mut.ensures.value in (
      preserved-set i.slots.items i.programs.items i.last c.self.invariant.0 c.args.pid c.live_index-k.result slot at _ at.number refl refl,
      roomy-set i.slots.items i.spare.items c.live_index-k.result _ _ _ c.self.invariant.1,
      c.self.invariant.2,
    )

pub returns : goal.returns
returns c =
    let i = c.self.inside in
    let found = rw c.deref.ensures.value at c.live_index-k.ensures in
    let slot = c.index_mut.result.now in
    let at = found-at i.slots.items c.args.pid c.live_index-k.result slot found c.index_mut.ensures.value in
    let process = process-at i.slots.items i.programs.items i.last c.args.self.now c.self.view_is c.args.pid c.self.invariant.0.ascending c.live_index-k.result slot at c.requires in
    let none = status-at i.slots.items i.programs.items i.last c.args.self.now c.self.view_is c.args.pid c.self.invariant.0.ascending c.live_index-k.result slot at c.requires in (
      (refl, λ w. changed-at i.slots.items i.programs.items i.last c.args.self.now c.self.view_is c.args.pid c.self.invariant.0.ascending c.live_index-k.result slot at c.requires _ (λ p. with_record p w) at.number none refl),
      record { writes_back = tt; value = rw c.get_mut.ensures.value (ap (option_map record_of) process) },
    )
