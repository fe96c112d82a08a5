use Rattle.pv_laws_steps.proofs.LargerRuns.{larger-keeps_traces}
use Rattle.pv_laws_steps.proofs.larger_runs.larger_keeps_traces.Goals as goal

pub returns : goal.returns
returns c = larger-keeps_traces
