use Rattle.std.proofs.Common.{◌≡◌, ◌∙◌, List, length, sym, ap, ap₂, subst, arith}
use Rattle.std.proofs.lemmas.List.{with_items_is}
use Rattle.pv_model.specs.Machine.{end_process}
use Rattle.pv_procs.specs.declared.slot.ProcessSlot.{ProcessSlot}
use Rattle.pv_procs.specs.declared.shared.Shared.{Shared}
use Rattle.pv_procs.specs.Slots.{AreConsistentSlots, IsIdleFrom, process_table_of, ascends, shared_program_at}
use Rattle.pv_procs.specs.ProcessTable.{ProcessTable, state_with}
use Rattle.pv_procs.proofs.IdlePrograms.{idle-fewer}
use Rattle.pv_procs.proofs.SlotLookups.{found-at, live-slot, status-at, process-at}
use Rattle.pv_procs.proofs.SlotInvariant.{ascends-set}
use Rattle.pv_procs.proofs.EndedSlots.{has-users, preserved-gone, preserved-claimed, end-is, parent-is}
use Rattle.pv_procs.proofs.processes.Processes.end.Goals as goal

pub live_index-k-requires-clause-ascends : goal.live_index-k-requires-clause-ascends
live_index-k-requires-clause-ascends c = rw c.deref.ensures.value c.self.invariant.0.ascending

pub live_index-k-requires-clause-there : goal.live_index-k-requires-clause-there
live_index-k-requires-clause-there c =
    let i = c.self.inside in
    rw c.deref.ensures.value (live-slot i.slots.items i.programs.items i.last c.args.self.now c.self.view_is c.args.pid c.requires)

pub unreference-requires-clause-used : goal.unreference-requires-clause-used
unreference-requires-clause-used c =
    let i = c.self.inside in
    let k = c.live_index-k.result in
    let slot = c.index_mut-slot.result.now in
    let found = rw c.deref.ensures.value at c.live_index-k.ensures in
    let at = found-at i.slots.items c.args.pid k slot found c.index_mut-slot.ensures.value in
    let lives = status-at i.slots.items i.programs.items i.last c.args.self.now c.self.view_is c.args.pid c.self.invariant.0.ascending k slot at c.requires in
    rw c.deref_mut.ensures.value (has-users i.slots.items i.programs.items i.last c.self.invariant.0 c.args.pid k slot at lives)

pub adopter-heir-requires : goal.adopter-heir-requires
adopter-heir-requires c =
    let i = c.self.inside in
    let k = c.live_index-k.result in
    let slot = c.index_mut-slot.result.now in
    let found = rw c.deref.ensures.value at c.live_index-k.ensures in
    let at = found-at i.slots.items c.args.pid k slot found c.index_mut-slot.ensures.value in
    ap ascends c.deref-2.ensures.value ∙ ascends-set i.slots.items c.args.pid k slot _ c.self.invariant.0.ascending at at.number

pub invariant_of-self : goal.invariant_of-self
invariant_of-self c =
    let i = c.self.inside in
    let k = c.live_index-k.result in
    let slot = c.index_mut-slot.result.now in
    let other = c.unreference.new.programs in
    let found = rw c.deref.ensures.value at c.live_index-k.ensures in
    let at = found-at i.slots.items c.args.pid k slot found c.index_mut-slot.ensures.value in
    let lives = status-at i.slots.items i.programs.items i.last c.args.self.now c.self.view_is c.args.pid c.self.invariant.0.ascending k slot at c.requires in
    let long : length other ≡ length i.programs.items = c.unreference.auto.programs ∙ ap length c.deref_mut.ensures.value in
    let fewer = rw c.deref_mut.ensures.value at c.unreference.ensures.users in
    let rest = rw c.deref_mut.ensures.value at c.unreference.ensures.other_users in
    let gone = preserved-gone i.slots.items i.programs.items i.last c.self.invariant.0 c.args.pid k slot at lives other long fewer rest c.args.status in
    let preserved = preserved-claimed _ other i.last c.args.pid c.adopter-heir.result gone in
    let same = with_items_is i.programs other (omega (arith, long, i.programs.ok.0)) in (
      subst (λ (gs : List Shared). AreConsistentSlots c.settle.new.slots.items gs i.last) (sym same)
          (subst (λ (ps : List ProcessSlot). AreConsistentSlots ps other i.last) (sym c.settle.ensures.slots) preserved),
      record {
        full = omega (arith, c.self.invariant.1.full, c.settle.ensures.all, c.settle.new.slots.ok.0, c.settle.new.spare.ok.0, i.slots.ok.0, i.spare.ok.0);
        room = omega (arith, c.self.invariant.1.room, c.settle.ensures.room);
        spare_room = omega (arith, c.self.invariant.1.spare_room, c.settle.ensures.spare_room);
      },
      subst (λ (gs : List Shared). IsIdleFrom gs i.most) (sym same) (idle-fewer i.programs.items other slot.program i.most c.self.invariant.2 rest fewer),
    )

pub returns : goal.returns
returns c = λ t files me is.
    let i = c.self.inside in
    let k = c.live_index-k.result in
    let slot = c.index_mut-slot.result.now in
    let other = c.unreference.new.programs in
    let found = rw c.deref.ensures.value at c.live_index-k.ensures in
    let at = found-at i.slots.items c.args.pid k slot found c.index_mut-slot.ensures.value in
    let lives = status-at i.slots.items i.programs.items i.last c.args.self.now c.self.view_is c.args.pid c.self.invariant.0.ascending k slot at c.requires in
    let process = process-at i.slots.items i.programs.items i.last c.args.self.now c.self.view_is c.args.pid c.self.invariant.0.ascending k slot at c.requires in
    let long : length other ≡ length i.programs.items = c.unreference.auto.programs ∙ ap length c.deref_mut.ensures.value in
    let fewer = rw c.deref_mut.ensures.value at c.unreference.ensures.users in
    let rest = rw c.deref_mut.ensures.value at c.unreference.ensures.other_users in
    let programs = rw c.deref_mut.ensures.value at c.unreference.ensures.programs in
    let same = with_items_is i.programs other (omega (arith, long, i.programs.ok.0)) in
    let heir = rw c.deref-2.ensures.value at (c.adopter-heir.ensures other) in
    let parent = parent-is c.args.self.now c.args.pid (shared_program_at i.programs.items slot.program) slot me process is in
    ap₂ (λ (ps : List ProcessSlot) (gs : List Shared). state_with t files (process_table_of ps gs i.last)) c.settle.ensures.slots same
    ∙ end-is i.slots.items i.programs.items i.last c.self.invariant.0 c.args.pid k slot at lives other long fewer rest c.args.status programs c.adopter-heir.result t files me parent heir
    ∙ ap (λ (v : ProcessTable). end_process (state_with t files v) c.args.pid me c.args.status) c.self.view_is
