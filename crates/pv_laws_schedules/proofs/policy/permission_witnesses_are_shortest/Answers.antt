use Rattle.pv_laws_schedules.proofs.ShortestWitnesses.{permission-witnesses}
use Rattle.pv_laws_schedules.proofs.policy.permission_witnesses_are_shortest.Goals as goal

pub returns : goal.returns
returns c = permission-witnesses
