use Rattle.pv_laws_classes.proofs.TogetherExampleRuns.{reads-happen}
use Rattle.pv_laws_classes.proofs.together_examples.reads_happen.Goals as goal

pub returns : goal.returns
returns c = reads-happen
