use Rattle.pv_laws_schedules.proofs.ShortestWitnesses.{need-witnesses}
use Rattle.pv_laws_schedules.proofs.policy.need_witnesses_are_shortest.Goals as goal

pub returns : goal.returns
returns c = need-witnesses
