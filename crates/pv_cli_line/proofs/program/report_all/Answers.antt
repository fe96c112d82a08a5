use Rattle.std.proofs.Common.{◌∙◌, refl, sym}
use Rattle.std.proofs.lemmas.Bool.{and_from}
use Rattle.pv_cli_line.proofs.ReportedErrors.{reported_alone, reported_more}
use Rattle.pv_cli_line.proofs.program.report_all.Goals as goal

pub returns-then-is_explained-clause-reports : goal.returns-then-is_explained-clause-reports
returns-then-is_explained-clause-reports g c =
    reported_more g.O.Sink g.E.Sink _ _ _ _ _ c.report-status.new.system c.report-status.ensures.reports refl c.explain.ensures
    (and_from _ _ c.if-line.true (sym c.is_explained.ensures ∙ c.if-is_explained.true))

pub returns-else-line-clause-reports : goal.returns-else-line-clause-reports
returns-else-line-clause-reports g c = reported_alone g.O.Sink g.E.Sink _ _ _ _ _ c.report-status.ensures.reports
