use Rattle.pv_laws_schedules.proofs.EqualRuns.{runs-alike}
use Rattle.pv_laws_schedules.proofs.compare.alike_runs_alike.Goals as goal

pub returns : goal.returns
returns c = runs-alike
