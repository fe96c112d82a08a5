use Rattle.std.proofs.Common.{◌∙◌, refl, sym}
use Rattle.pv_cli_line.proofs.ReportedErrors.{reports_cut, reports_error, reports_shown}
use Rattle.pv_cli_line.proofs.program.report.Goals as goal

pub returns-then-status-ne0-clause-reports : goal.returns-then-status-ne0-clause-reports
returns-then-status-ne0-clause-reports g c =
    reports_error g.O.Sink g.E.Sink c.args.fault.now _ _ _ c.write_message-written.result (sym c.is_reported.ensures ∙ c.if-is_reported.false) c.status-status.ensures c.if-status-ne0.true refl
    c.write_message-written.ensures

pub returns-in-Ok-clause-reports : goal.returns-in-Ok-clause-reports
returns-in-Ok-clause-reports g c =
    reports_shown g.O.Sink g.E.Sink c.args.fault.now _ _ _ c.write_message.result (sym c.is_reported.ensures ∙ c.if-is_reported.false)
    (sym c.status-status.ensures ∙ c.if-status-ne0.false) c.if-status-ne0.false refl c.write_message.ensures c.in-Ok.is

pub returns-in-Err-clause-reports : goal.returns-in-Err-clause-reports
returns-in-Err-clause-reports g c =
    reports_cut g.O.Sink g.E.Sink c.args.fault.now _ _ _ _ _ (sym c.is_reported.ensures ∙ c.if-is_reported.false)
    (sym c.status-status.ensures ∙ c.if-status-ne0.false) c.status.ensures refl c.in-Err.ensures
    (record { alone = refl; written = c.write_message-written-in-Err.result; message = c.write_message-written-in-Err.ensures })
