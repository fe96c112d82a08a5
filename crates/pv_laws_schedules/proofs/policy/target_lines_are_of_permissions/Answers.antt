use Rattle.pv_laws_schedules.proofs.TargetLines.{target-lines}
use Rattle.pv_laws_schedules.proofs.policy.target_lines_are_of_permissions.Goals as goal

pub returns : goal.returns
returns c = target-lines
