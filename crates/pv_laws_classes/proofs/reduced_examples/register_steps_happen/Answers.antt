use Rattle.pv_laws_classes.proofs.ReducedExampleRuns.{registers-happen}
use Rattle.pv_laws_classes.proofs.reduced_examples.register_steps_happen.Goals as goal

pub returns : goal.returns
returns c = registers-happen
