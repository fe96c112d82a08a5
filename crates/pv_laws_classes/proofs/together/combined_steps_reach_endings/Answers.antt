use Rattle.pv_laws_classes.proofs.CombinedSteps.{ends-together}
use Rattle.pv_laws_classes.proofs.together.combined_steps_reach_endings.Goals as goal

pub returns : goal.returns
returns c = λ program_of most s pids encodes whole steps ended. ends-together program_of most encodes s pids whole steps ended
