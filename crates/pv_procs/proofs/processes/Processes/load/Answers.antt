use Rattle.std.proofs.Common.{◌≡◌, ◌∙◌, List, length, position, slice_set, sym, ap, ap₂, subst, arith}
use Rattle.std.proofs.lemmas.List.{with_items_is}
use Rattle.std.specs.Vec.{with_items}
use Rattle.pv_procs.specs.declared.slot.ProcessSlot.{ProcessSlot}
use Rattle.pv_procs.specs.declared.record.ProcessRecord.{ProcessRecord}
use Rattle.pv_procs.specs.declared.shared.Shared.{Shared}
use Rattle.pv_procs.specs.Parts.{after_exec}
use Rattle.pv_procs.specs.Slots.{AreConsistentSlots, IsIdleFrom, process_table_of}
use Rattle.pv_procs.proofs.IdlePrograms.{idle-fewer, idle-set}
use Rattle.pv_procs.proofs.SlotLookups.{found-at, live-slot, status-at, process-at}
use Rattle.pv_procs.proofs.SlotInvariant.{roomy-set}
use Rattle.pv_procs.proofs.EndedSlots.{has-users}
use Rattle.pv_procs.proofs.LoadedPrograms.{has_user, some-free, free-users, preserved-loaded, load-is}
use Rattle.pv_procs.proofs.processes.Processes.load.Goals as goal

pub live_index-k-requires-clause-ascends : goal.live_index-k-requires-clause-ascends
live_index-k-requires-clause-ascends c = rw c.deref.ensures.value c.self.invariant.0.ascending

pub live_index-k-requires-clause-there : goal.live_index-k-requires-clause-there
live_index-k-requires-clause-there c =
    let i = c.self.inside in
    rw c.deref.ensures.value (live-slot i.slots.items i.programs.items i.last c.args.self.now c.self.view_is c.args.pid c.requires)

pub unreference-requires-clause-used : goal.unreference-requires-clause-used
unreference-requires-clause-used c =
    let i = c.self.inside in
    let k = c.live_index-k.result in
    let slot = c.index_mut-slot.result.now in
    let found = rw c.deref.ensures.value at c.live_index-k.ensures in
    let at = found-at i.slots.items c.args.pid k slot found c.index_mut-slot.ensures.value in
    let lives = status-at i.slots.items i.programs.items i.last c.args.self.now c.self.view_is c.args.pid c.self.invariant.0.ascending k slot at c.requires in
    rw c.deref_mut.ensures.value (has-users i.slots.items i.programs.items i.last c.self.invariant.0 c.args.pid k slot at lives)

pub unreachable-requires : goal.unreachable-requires
unreachable-requires c =
    let i = c.self.inside in
    let k = c.live_index-k.result in
    let slot = c.index_mut-slot.result.now in
    let go = c.unreference.new.programs in
    let preserved = c.self.invariant.0 in
    let found = rw c.deref.ensures.value at c.live_index-k.ensures in
    let at = found-at i.slots.items c.args.pid k slot found c.index_mut-slot.ensures.value in
    let lives = status-at i.slots.items i.programs.items i.last c.args.self.now c.self.view_is c.args.pid preserved.ascending k slot at c.requires in
    let long : length go ≡ length i.programs.items = c.unreference.auto.programs ∙ ap length c.deref_mut.ensures.value in
    let fewer = rw c.deref_mut.ensures.value at c.unreference.ensures.users in
    let rest = rw c.deref_mut.ensures.value at c.unreference.ensures.other_users in
    let same = with_items_is i.programs go (omega (arith, long, i.programs.ok.0)) in
    let searched = ap (position has_user) (sym (c.deref-2.ensures.value ∙ same)) ∙ sym c.free_program.ensures in
    some-free i.slots.items i.programs.items i.last preserved c.args.pid k slot at lives go long fewer rest (omega (arith, c.self.invariant.1.full)) (searched ∙ c.in_default.is)

pub invariant_of-self : goal.invariant_of-self
invariant_of-self c =
    let i = c.self.inside in
    let k = c.live_index-k.result in
    let slot = c.index_mut-slot.result.now in
    let go = c.unreference.new.programs in
    let preserved = c.self.invariant.0 in
    let found = rw c.deref.ensures.value at c.live_index-k.ensures in
    let at = found-at i.slots.items c.args.pid k slot found c.index_mut-slot.ensures.value in
    let lives = status-at i.slots.items i.programs.items i.last c.args.self.now c.self.view_is c.args.pid preserved.ascending k slot at c.requires in
    let long : length go ≡ length i.programs.items = c.unreference.auto.programs ∙ ap length c.deref_mut.ensures.value in
    let fewer = rw c.deref_mut.ensures.value at c.unreference.ensures.users in
    let rest = rw c.deref_mut.ensures.value at c.unreference.ensures.other_users in
    let same = with_items_is i.programs go (omega (arith, long, i.programs.ok.0)) in
    let searched = ap (position has_user) (sym (c.deref-2.ensures.value ∙ same)) ∙ sym c.free_program.ensures in
    let free = c.in-Some.free in
    let unused = free-users go free (searched ∙ c.in-Some.is) in
    let slots = ap (λ (r : ProcessRecord). slice_set i.slots.items k (record slot { program = free; «record» = r })) (rw c.get_mut.ensures.value at c.after_exec.ensures) in
    let programs = ap (λ (gs : List Shared). slice_set gs free (record { program = c.args.program; users = 1 })) same in
    let loaded = preserved-loaded i.slots.items i.programs.items i.last preserved c.args.pid k slot at lives go long fewer rest free unused.0 unused.1 c.args.program in
    let changed : List ProcessSlot = slice_set i.slots.items k (record slot { program = free; «record» = after_exec slot.record }) in
    let listed : List Shared = slice_set (with_items i.programs go).items free (record { program = c.args.program; users = 1 }) in (
      subst (λ (ps : List ProcessSlot). AreConsistentSlots ps listed i.last) (sym slots) (subst (λ (gs : List Shared). AreConsistentSlots changed gs i.last) (sym programs) loaded),
      roomy-set i.slots.items i.spare.items k _ _ _ c.self.invariant.1,
      subst (λ (gs : List Shared). IsIdleFrom gs c.max-self-inside.result) (sym programs)
          (rw c.max-self-inside.ensures (idle-set go free i.most (record { program = c.args.program; users = 1 }) (idle-fewer i.programs.items go slot.program i.most c.self.invariant.2 rest fewer) (omega (arith, unused.0, long, preserved.table)))),
    )

pub returns : goal.returns
returns c = λ s.
    let i = c.self.inside in
    let k = c.live_index-k.result in
    let slot = c.index_mut-slot.result.now in
    let go = c.unreference.new.programs in
    let preserved = c.self.invariant.0 in
    let found = rw c.deref.ensures.value at c.live_index-k.ensures in
    let at = found-at i.slots.items c.args.pid k slot found c.index_mut-slot.ensures.value in
    let lives = status-at i.slots.items i.programs.items i.last c.args.self.now c.self.view_is c.args.pid preserved.ascending k slot at c.requires in
    let long : length go ≡ length i.programs.items = c.unreference.auto.programs ∙ ap length c.deref_mut.ensures.value in
    let fewer = rw c.deref_mut.ensures.value at c.unreference.ensures.users in
    let rest = rw c.deref_mut.ensures.value at c.unreference.ensures.other_users in
    let same = with_items_is i.programs go (omega (arith, long, i.programs.ok.0)) in
    let searched = ap (position has_user) (sym (c.deref-2.ensures.value ∙ same)) ∙ sym c.free_program.ensures in
    let free = c.in-Some.free in
    let unused = free-users go free (searched ∙ c.in-Some.is) in
    let slots = ap (λ (r : ProcessRecord). slice_set i.slots.items k (record slot { program = free; «record» = r })) (rw c.get_mut.ensures.value at c.after_exec.ensures) in
    let programs = ap (λ (gs : List Shared). slice_set gs free (record { program = c.args.program; users = 1 })) same in
    let program = rw c.deref_mut.ensures.value at c.unreference.ensures.programs in
    let process = process-at i.slots.items i.programs.items i.last c.args.self.now c.self.view_is c.args.pid preserved.ascending k slot at c.requires in
    ap₂ (λ (ps : List ProcessSlot) (gs : List Shared). process_table_of ps gs i.last) slots programs
    ∙ load-is i.slots.items i.programs.items i.last preserved c.args.pid k slot at lives go long fewer rest free unused.0 unused.1 c.args.program program s c.args.self.now c.self.view_is process
