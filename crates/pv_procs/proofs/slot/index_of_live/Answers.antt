use Rattle.std.proofs.Common.{◌∙◌, sym, ap}
use Rattle.pv_model.specs.Machine.{live_process}
use Rattle.pv_procs.specs.Slots.{shared_program_at}
use Rattle.pv_procs.proofs.SlotLookups.{ended_is, found-at, find-at, find-none}
use Rattle.pv_procs.proofs.slot.index_of_live.Goals as goal

pub returns-in_err-k-clause-none : goal.returns-in_err-k-clause-none
returns-in_err-k-clause-none c = λ none programs. ap live_process (find-none programs c.args.slots.now c.args.pid (sym c.index_of.ensures ∙ c.in_err-k.was))

pub returns-in-Some-clause-none : goal.returns-in-Some-clause-none
returns-in-Some-clause-none c = λ none programs.
    let k = c.in_ok-k.k in
    let slot = c.index-slots-k.result in
    let at = found-at c.args.slots.now c.args.pid k slot (sym c.index_of.ensures ∙ c.in_ok-k.was) c.index-slots-k.is in
    ap live_process (find-at programs c.args.slots.now c.args.pid k slot c.requires at) ∙ ended_is slot (shared_program_at programs slot.program) slot.status c.in-Some.field-0 c.in-Some.is
