use Rattle.pv_laws_schedules.proofs.NeededPromises.{calling-programs_reduced}
use Rattle.pv_laws_schedules.proofs.reduced_policy.calling_programs_are_listed_reduced.Goals as goal

pub returns : goal.returns
returns c = calling-programs_reduced
