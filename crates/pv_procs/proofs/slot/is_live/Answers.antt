use Rattle.std.proofs.Common.{◌∙◌, sym, ap, is_some}
use Rattle.pv_model.specs.Machine.{live_process}
use Rattle.pv_procs.specs.declared.slot.ProcessSlot.{ProcessSlot}
use Rattle.pv_procs.specs.Slots.{shared_program_at}
use Rattle.pv_procs.proofs.SlotLookups.{found-at, find-at, find-none, live_test}
use Rattle.pv_procs.proofs.slot.is_live.Goals as goal

pub returns-in-Some : goal.returns-in-Some
returns-in-Some c = λ programs.
    let slot = c.index-slots-k.result in
    let at = found-at c.args.slots.now c.args.pid c.in-Some.k slot (sym c.index_of.ensures ∙ c.in-Some.is) c.index-slots-k.is in
    live_test slot (shared_program_at programs slot.program) slot.status c.is_none.result (ap (λ (p : ProcessSlot). is_some p.status) c.index-slots-k.is ∙ c.is_none.ensures)
    ∙ sym (ap (λ o. is_some (live_process o)) (find-at programs c.args.slots.now c.args.pid c.in-Some.k slot c.requires at))

pub returns-in-None : goal.returns-in-None
returns-in-None c = λ programs.
    sym (ap (λ o. is_some (live_process o)) (find-none programs c.args.slots.now c.args.pid (sym c.index_of.ensures ∙ c.in-None.is)))
