use Rattle.pv_laws_schedules.proofs.ShortestWitnesses.{finding-witnesses}
use Rattle.pv_laws_schedules.proofs.exposure.finding_witnesses_are_shortest.Goals as goal

pub returns : goal.returns
returns c = finding-witnesses
