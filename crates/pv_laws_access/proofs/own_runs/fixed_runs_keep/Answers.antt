use Rattle.pv_laws_access.proofs.OwnRuns.{fixed-runs_keep}
use Rattle.pv_laws_access.proofs.own_runs.fixed_runs_keep.Goals as goal

pub returns : goal.returns
returns c = fixed-runs_keep
