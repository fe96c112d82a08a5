use Rattle.std.proofs.Common.{rules}
use Rattle.std.proofs.lemmas.List.Sorted.{answers_always}
use Rattle.pv_procs.specs.declared.slot.ProcessSlot.{ProcessSlot}
use Rattle.pv_procs.proofs.SlotLookups.{half-found, half-none}
use Rattle.pv_procs.proofs.slot.index_of.Goals as goal

pub returns-in-Ok : goal.returns-in-Ok
returns-in-Ok c =
    half-found c.args.slots.now c.args.pid c.requires c.in-Ok.k c.in-Ok.ensures.bound
    (c.in-Ok.ensures.position (λ (slot : ProcessSlot). slot.number) (answers_always _ _ _ (λ f a r g called. search rules)))

pub returns-in-Err : goal.returns-in-Err
returns-in-Err c =
    half-none c.args.slots.now c.args.pid c.requires c.in-Err.field-0
    (c.in-Err.ensures.position (λ (slot : ProcessSlot). slot.number) (answers_always _ _ _ (λ f a r g called. search rules)))
