use Rattle.std.proofs.Common.{◌∙◌, sym}
use Rattle.std.proofs.lemmas.Result.{err_from_is_err_and}
use Rattle.pv_model.specs.Machine.{lines_of}
use Rattle.pv_run.specs.Run.{started_from}
use Rattle.pv_laws_runs.proofs.RunChecks.{boots, started-valid}
use Rattle.pv_run.proofs.InputChecks.{refuses_boot, refuses_schedule, refuses_text, schedule_of_text}
use Rattle.pv_run.proofs.turns.start_on.Goals as goal

pub returns-in_err-schedule-clause-fault : goal.returns-in_err-schedule-clause-fault
returns-in_err-schedule-clause-fault c =
    let p = err_from_is_err_and c.from_residual.result c.from_residual.ensures.1 in
    rw p.1 (refuses_schedule c.args.store (lines_of c.args.schedule.now) c.in_err-schedule.field-0.0 p.0 p.2 (refuses_text c.in_err-schedule.field-0.0 _ c.in_err-schedule.ensures))

pub returns-in_err-session-clause-fault : goal.returns-in_err-session-clause-fault
returns-in_err-session-clause-fault c =
    let p = err_from_is_err_and c.from_residual-in_err-session.result c.from_residual-in_err-session.ensures.1 in
    rw p.1 (refuses_boot c.args.store (lines_of c.args.schedule.now) c.in_ok-schedule.schedule (sym (schedule_of_text _) ∙ c.in_ok-schedule.ensures) c.in_err-session.field-0.0 p.0 p.2 c.in_err-session.ensures.refused)

pub returns-clause-asked : goal.returns-clause-asked
returns-clause-asked c =
    started-valid c.args.store (lines_of c.args.schedule.now) (started_from c.in_ok-session.session c.in_ok-schedule.schedule) (sym (schedule_of_text _) ∙ c.in_ok-schedule.ensures) c.in_ok-session.ensures.booted

pub returns-clause-machine : goal.returns-clause-machine
returns-clause-machine c = boots c.args.store c.in_ok-session.session c.in_ok-session.ensures.booted
