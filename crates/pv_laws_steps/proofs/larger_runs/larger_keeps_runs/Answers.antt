use Rattle.pv_laws_steps.proofs.LargerRuns.{larger-keeps_runs}
use Rattle.pv_laws_steps.proofs.larger_runs.larger_keeps_runs.Goals as goal

pub returns : goal.returns
returns c = λ program_of encodes s u pids. larger-keeps_runs program_of encodes pids s u
