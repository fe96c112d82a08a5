use Rattle.pv_laws_answers.proofs.Observations.{explore-observed}
use Rattle.pv_laws_answers.proofs.observed.explore_reports_observations.Goals as goal

pub returns : goal.returns
returns c = explore-observed
