use Rattle.pv_laws_steps.proofs.LargerRuns.{larger-starts}
use Rattle.pv_laws_steps.proofs.larger_runs.larger_starts.Goals as goal

pub returns : goal.returns
returns c = larger-starts
