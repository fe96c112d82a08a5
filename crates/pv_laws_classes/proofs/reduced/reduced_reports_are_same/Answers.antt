use Rattle.pv_laws_classes.proofs.ReducedReports.{reduced-reports}
use Rattle.pv_laws_classes.proofs.reduced.reduced_reports_are_same.Goals as goal

pub returns : goal.returns
returns c = reduced-reports
