use Rattle.std.proofs.Common.{◌∙◌, List, [], ◌∷◌, ◌++◌, sym, ap₂, subst, arith}
use Rattle.pv_procs.specs.declared.slot.ProcessSlot.{ProcessSlot}
use Rattle.pv_procs.specs.declared.shared.Shared.{Shared}
use Rattle.pv_procs.specs.Slots.{AreConsistentSlots, IsIdleFrom}
use Rattle.pv_procs.proofs.IdlePrograms.{idle-first}
use Rattle.pv_procs.proofs.LoadedPrograms.{first-preserved}
use Rattle.pv_procs.proofs.processes.Processes.new.Goals as goal

pub invariant_of-result : goal.invariant_of-result
invariant_of-result c =
    let slots = c.push_reserved.ensures.items ∙ ap₂ (λ (ps : List ProcessSlot) (p : ProcessSlot). ps ++ p ∷ []) c.in_ok-slots.ensures.items c.in_ok-blank.ensures in (
      subst (λ (ps : List ProcessSlot). AreConsistentSlots ps c.in_ok-programs.programs.items 1) (sym slots)
          (subst (λ (gs : List Shared). AreConsistentSlots _ gs 1) (sym c.in_ok-programs.ensures) (first-preserved c.args.program)),
      record {
        full = omega (arith, c.push_reserved.ensures.len, c.in_ok-slots.ensures.len, c.in_ok-spare.ensures.count, c.push_reserved.new.self.ok.0, c.in_ok-spare.spare.ok.0);
        room = omega (arith, c.push_reserved.ensures.capacity, c.in_ok-slots.ensures.exact);
        spare_room = omega (arith, c.in_ok-spare.ensures.room);
      },
      subst (λ (gs : List Shared). IsIdleFrom gs 1) (sym c.in_ok-programs.ensures) (idle-first c.args.program),
    )
