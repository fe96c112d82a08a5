use Rattle.std.proofs.Common.{◌∙◌, refl, sym}
use Rattle.pv_cli_line.proofs.ReportedErrors.{reported_alone, reported_more}
use Rattle.pv_cli_line.proofs.program.report_words.Goals as goal

pub returns-then-is_number-clause-reports : goal.returns-then-is_number-clause-reports
returns-then-is_number-clause-reports g c =
    reported_more g.O.Sink g.E.Sink _ _ _ _ _ c.report-status.new.system c.report-status.ensures.reports refl c.explain_number.ensures
    (sym c.is_number-is_number.ensures ∙ c.if-is_number.true)

pub returns-else-is_number-clause-reports : goal.returns-else-is_number-clause-reports
returns-else-is_number-clause-reports g c = reported_alone g.O.Sink g.E.Sink _ _ _ _ _ c.report-status.ensures.reports
