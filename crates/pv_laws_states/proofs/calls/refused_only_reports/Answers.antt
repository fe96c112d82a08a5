use Rattle.pv_laws_states.proofs.CallOutcomes.{refused-reports}
use Rattle.pv_laws_states.proofs.calls.refused_only_reports.Goals as goal

pub returns : goal.returns
returns c = refused-reports
