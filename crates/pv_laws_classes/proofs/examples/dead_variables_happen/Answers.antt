use Rattle.pv_laws_classes.proofs.LiveExampleRuns.{dead-happen}
use Rattle.pv_laws_classes.proofs.examples.dead_variables_happen.Goals as goal

pub returns : goal.returns
returns c = dead-happen
