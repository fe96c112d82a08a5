use Rattle.pv_laws_classes.proofs.CombinedSteps.{ends-alike}
use Rattle.pv_laws_classes.proofs.together.combined_steps_reach_each.Goals as goal

pub returns : goal.returns
returns c = λ program_of most s pids pid encodes whole steps off. ends-alike program_of most encodes s whole pids pid steps off
