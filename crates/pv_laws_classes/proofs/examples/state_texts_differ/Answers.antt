use Rattle.pv_laws_classes.proofs.ClassExampleRuns.{state-texts-happen}
use Rattle.pv_laws_classes.proofs.examples.state_texts_differ.Goals as goal

pub returns : goal.returns
returns c = state-texts-happen
