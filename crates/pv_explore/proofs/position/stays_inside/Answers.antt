use Rattle.std.proofs.Common.{◌∙◌, ap, sym, subst}
use Rattle.pv_step_lines.proofs.OfAnswers.InstructionWords.{register-next}
use Rattle.pv_explore.specs.Observing.{stays_inside}
use Rattle.pv_step_cache.specs.OfLawsSteps.Commuting.{changes_own_inside}
use Rattle.pv_model.specs.Machine.{process_at}
use Rattle.pv_step_lines.proofs.OfSession.MachineSteps.{lent-process}
use Rattle.pv_step_lines.specs.OfProcs.Turns.{CallsNext, RegisterNext}
use Rattle.pv_explore.proofs.position.stays_inside.Goals as goal

pub returns-in-Register : goal.returns-in-Register
returns-in-Register c =
    let s = c.args.session.now in
    let now = lent-process s c.parts.result.now c.processes.result.now c.args.pid c.parts.ensures.value c.processes.ensures in
    let it = register-next (process_at s c.args.pid) (subst RegisterNext now c.in-Register.ensures) in
    sym (ap stays_inside it.1 ∙ ap changes_own_inside it.3)

pub returns-in-Call : goal.returns-in-Call
returns-in-Call c =
    let s = c.args.session.now in
    let now = lent-process s c.parts.result.now c.processes.result.now c.args.pid c.parts.ensures.value c.processes.ensures in
    let it = subst (CallsNext c.in-Call.call) now c.in-Call.ensures in
    c.only_asks.ensures ∙ sym (ap stays_inside it.1 ∙ ap changes_own_inside it.2)

pub returns-in-Gone : goal.returns-in-Gone
returns-in-Gone c =
    let s = c.args.session.now in
    let now = lent-process s c.parts.result.now c.processes.result.now c.args.pid c.parts.ensures.value c.processes.ensures in
    sym (ap stays_inside (sym now ∙ c.in-Gone.ensures))
