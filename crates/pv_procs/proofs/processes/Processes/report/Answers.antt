use Rattle.std.proofs.Common.{refl, w32}
use Rattle.std.proofs.lemmas.Int.{to_z-of_z}
use Rattle.pv_model.specs.Machine.{with_result}
use Rattle.pv_procs.specs.Slots.{process_of, shared_program_at}
use Rattle.pv_procs.proofs.SlotLookups.{found-at, live-slot, status-at}
use Rattle.pv_procs.proofs.SlotInvariant.{preserved-set, roomy-set}
use Rattle.pv_procs.proofs.ContextSteps.{context-changed}
use Rattle.pv_procs.proofs.processes.Processes.report.Goals as goal

pub live_index-k-requires-clause-ascends : goal.live_index-k-requires-clause-ascends
live_index-k-requires-clause-ascends c = rw c.deref.ensures.value c.self.invariant.0.ascending

pub live_index-k-requires-clause-there : goal.live_index-k-requires-clause-there
live_index-k-requires-clause-there c =
    let i = c.self.inside in
    rw c.deref.ensures.value (live-slot i.slots.items i.programs.items i.last c.args.self.now c.self.view_is c.args.pid c.requires)

pub invariant_of-self : goal.invariant_of-self
invariant_of-self c =
    let i = c.self.inside in
    let k = c.live_index-k.result in
    let slot = c.index_mut-slot.result.now in
    let found = rw c.deref.ensures.value at c.live_index-k.ensures in
    let at = found-at i.slots.items c.args.pid k slot found c.index_mut-slot.ensures.value in
    let lives = status-at i.slots.items i.programs.items i.last c.args.self.now c.self.view_is c.args.pid c.self.invariant.0.ascending k slot at c.requires in
    (preserved-set i.slots.items i.programs.items i.last c.self.invariant.0 c.args.pid k slot at _ at.number refl refl, roomy-set i.slots.items i.spare.items k _ _ _ c.self.invariant.1, c.self.invariant.2)

pub returns : goal.returns
returns c =
    let i = c.self.inside in
    let k = c.live_index-k.result in
    let slot = c.index_mut-slot.result.now in
    let found = rw c.deref.ensures.value at c.live_index-k.ensures in
    let at = found-at i.slots.items c.args.pid k slot found c.index_mut-slot.ensures.value in
    let lives = status-at i.slots.items i.programs.items i.last c.args.self.now c.self.view_is c.args.pid c.self.invariant.0.ascending k slot at c.requires in
    rw c.get_mut.ensures.value (context-changed i.slots.items i.programs.items i.last c.args.self.now c.self.view_is c.args.pid c.self.invariant.0.ascending k slot at c.requires c.report.new.self (λ p. with_result p c.args.value c.args.error)
    (rw (to_z-of_z w32 c.args.value c.ranges.value) at (rw c.get_mut.ensures.value at (c.report.ensures (shared_program_at i.programs.items slot.program) (process_of (shared_program_at i.programs.items slot.program) slot)))))
