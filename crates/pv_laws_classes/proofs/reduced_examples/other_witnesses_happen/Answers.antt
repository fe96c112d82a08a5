use Rattle.pv_laws_classes.proofs.ReducedExampleRuns.{witnesses-happen}
use Rattle.pv_laws_classes.proofs.reduced_examples.other_witnesses_happen.Goals as goal

pub returns : goal.returns
returns c = witnesses-happen
