use Rattle.pv_laws_classes.proofs.TogetherExampleRuns.{endless-loops_happen}
use Rattle.pv_laws_classes.proofs.together_examples.endless_loops_happen.Goals as goal

pub returns : goal.returns
returns c = endless-loops_happen
