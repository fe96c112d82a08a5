use Rattle.pv_laws_classes.proofs.TogetherExampleRuns.{loops-happen}
use Rattle.pv_laws_classes.proofs.together_examples.loops_happen.Goals as goal

pub returns : goal.returns
returns c = loops-happen
