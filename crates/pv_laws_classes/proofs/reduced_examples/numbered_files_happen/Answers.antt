use Rattle.pv_laws_classes.proofs.ReducedExampleRuns.{files-happen}
use Rattle.pv_laws_classes.proofs.reduced_examples.numbered_files_happen.Goals as goal

pub returns : goal.returns
returns c = files-happen
