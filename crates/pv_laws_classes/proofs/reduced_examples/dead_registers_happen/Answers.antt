use Rattle.pv_laws_classes.proofs.ReducedExampleRuns.{dead-happen}
use Rattle.pv_laws_classes.proofs.reduced_examples.dead_registers_happen.Goals as goal

pub returns : goal.returns
returns c = dead-happen
