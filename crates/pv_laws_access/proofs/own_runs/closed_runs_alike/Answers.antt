use Rattle.pv_laws_access.proofs.OwnRuns.{closed-runs_alike}
use Rattle.pv_laws_access.proofs.own_runs.closed_runs_alike.Goals as goal

pub returns : goal.returns
returns c = closed-runs_alike
