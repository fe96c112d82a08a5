use Rattle.pv_laws_schedules.proofs.NeededPromises.{calling-programs}
use Rattle.pv_laws_schedules.proofs.policy.calling_programs_are_listed.Goals as goal

pub returns : goal.returns
returns c = calling-programs
