use Rattle.pv_laws_access.proofs.NameExampleRuns.{moves-happen}
use Rattle.pv_laws_access.proofs.name_examples.moves_happen.Goals as goal

pub returns : goal.returns
returns c = moves-happen
