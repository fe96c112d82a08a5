use Rattle.pv_laws_classes.proofs.ExampleRuns.{swaps-happen}
use Rattle.pv_laws_classes.proofs.examples.swaps_happen.Goals as goal

pub returns : goal.returns
returns c = swaps-happen
