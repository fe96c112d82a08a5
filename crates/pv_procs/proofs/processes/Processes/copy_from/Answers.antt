use Rattle.std.proofs.Common.{◌≡◌, ℕ, ◌<◌, ◌≤◌, ◌∙◌, List, length, slice_get, take, sym, ap, ap₂, subst, arith}
use Rattle.std.proofs.lemmas.List.{length-take-le, with_items_is}
use Rattle.std.specs.Vec.{with_items}
use Rattle.pv_procs.specs.declared.slot.ProcessSlot.{ProcessSlot}
use Rattle.pv_procs.specs.declared.shared.Shared.{Shared}
use Rattle.pv_procs.specs.Slots.{AreConsistentSlots, IsIdleFrom, process_table_of, users_at}
use Rattle.pv_procs.proofs.IdlePrograms.{idle-copied, preserved-copied, slice_get-take, table-copied}
use Rattle.pv_procs.proofs.processes.Processes.copy_from.Goals as goal
use Rattle.pv_procs.proofs.processes.Processes.copy_from.Goals.{After-put_programs, After-copy_slots}

-- the prepared programs are those of the other processes that may have users
prepared : (c : After-put_programs) → c.deref_mut-2.result.now ≡ take c.other.inside.most c.other.inside.programs.items
prepared c = c.deref_mut-2.ensures.value ∙ c.in_ok-share_programs.ensures ∙ ap (take c.other.inside.most) c.deref.ensures.value

count : (c : After-put_programs) → length c.deref_mut-2.result.now ≡ c.other.inside.most
count c =
    let b = c.other.inside in
    ap length (prepared c) ∙ length-take-le b.most b.programs.items (omega (arith, c.other.invariant.2.few, c.other.invariant.0.table))

put : (c : After-put_programs) → (k : ℕ) → k < c.other.inside.most → slice_get c.put_programs.new.programs k ≡ slice_get c.other.inside.programs.items k
put c k below =
    c.put_programs.ensures.put k (omega (arith, count c))
    ∙ ap (λ (gs : List Shared). slice_get gs k) (prepared c)
    ∙ slice_get-take c.other.inside.programs.items c.other.inside.most k below

rest : (c : After-put_programs) → (k : ℕ) → c.other.inside.most ≤ k → users_at c.put_programs.new.programs k ≡ 0
rest c k past = c.put_programs.ensures.rest k (omega (arith, count c))

long : (c : After-put_programs) → length c.put_programs.new.programs ≡ length c.other.inside.programs.items
long c = c.put_programs.ensures.long ∙ ap length c.deref_mut.ensures.value ∙ c.self.invariant.0.table ∙ sym c.other.invariant.0.table

programs : (c : After-put_programs) → (with_items c.self.inside.programs c.put_programs.new.programs).items ≡ c.put_programs.new.programs
programs c = with_items_is c.self.inside.programs c.put_programs.new.programs (omega (arith, long c, c.self.invariant.0.table, c.other.invariant.0.table, c.self.inside.programs.ok.0))

slots : (c : After-copy_slots) → (with_items c.use_slots.new.slots c.copy_slots.new.slots).items ≡ c.other.inside.slots.items
slots c =
    let same = c.copy_slots.ensures ∙ c.deref-2.ensures.value in
    with_items_is c.use_slots.new.slots c.copy_slots.new.slots (omega (arith, ap length same, c.use_slots.ensures.used, c.len.ensures, c.other.inside.slots.ok.0)) ∙ same

pub invariant_of-self-2 : goal.invariant_of-self-2
invariant_of-self-2 c =
    let a = c.self.inside in
    let b = c.other.inside in
    let new = c.put_programs.new.programs in
    let step = (goal.at.invariant_of-self-2 c).After-put_programs in
    let same_slots = slots (goal.at.invariant_of-self-2 c).After-copy_slots in
    let same_programs = programs step in (
      subst (λ (ps : List ProcessSlot). AreConsistentSlots ps (with_items a.programs new).items b.last) (sym same_slots)
          (subst (λ (gs : List Shared). AreConsistentSlots b.slots.items gs b.last) (sym same_programs)
          (preserved-copied b.slots.items b.programs.items new b.last b.most c.other.invariant.0 c.other.invariant.2 (long step) (put step) (rest step))),
      record {
        full = omega (arith, ap length same_slots, c.self.invariant.1.full, c.use_slots.ensures.used, c.use_slots.ensures.all, c.len.ensures, a.slots.ok.0, a.spare.ok.0, b.slots.ok.0, c.use_slots.new.spare.ok.0);
        room = omega (arith, c.self.invariant.1.room, c.use_slots.ensures.capacity);
        spare_room = omega (arith, c.self.invariant.1.spare_room, c.use_slots.ensures.spare_capacity);
      },
      subst (λ (gs : List Shared). IsIdleFrom gs b.most) (sym same_programs)
          (idle-copied b.slots.items b.programs.items new b.last b.most c.other.invariant.0 c.other.invariant.2 (long step) (put step) (rest step)),
    )

pub returns-clause-copied : goal.returns-clause-copied
returns-clause-copied c =
    let b = c.other.inside in
    let new = c.put_programs.new.programs in
    let step = (goal.at.returns-clause-copied c).After-put_programs in
    ap₂ (λ (ps : List ProcessSlot) (gs : List Shared). process_table_of ps gs b.last) (slots (goal.at.returns-clause-copied c).After-copy_slots) (programs step)
    ∙ table-copied b.slots.items b.programs.items new b.last b.most c.other.invariant.0 c.other.invariant.2 (long step) (put step) (rest step)
    ∙ c.other.view_is
