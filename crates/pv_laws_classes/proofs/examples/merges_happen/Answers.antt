use Rattle.pv_laws_classes.proofs.ExampleRuns.{merges-happen}
use Rattle.pv_laws_classes.proofs.examples.merges_happen.Goals as goal

pub returns : goal.returns
returns c = merges-happen
