use Rattle.pv_laws_schedules.proofs.NeededPromises.{promise-lines}
use Rattle.pv_laws_schedules.proofs.policy.promise_lines_are_of_needs.Goals as goal

pub returns : goal.returns
returns c = promise-lines
