use Rattle.pv_laws_access.proofs.JustifiedReports.{reporting-justified}
use Rattle.pv_laws_access.proofs.justice.reporting_is_justified.Goals as goal

pub returns : goal.returns
returns c = reporting-justified
