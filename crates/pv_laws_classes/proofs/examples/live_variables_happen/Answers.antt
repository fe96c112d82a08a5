use Rattle.pv_laws_classes.proofs.LiveExampleRuns.{live-happen}
use Rattle.pv_laws_classes.proofs.examples.live_variables_happen.Goals as goal

pub returns : goal.returns
returns c = live-happen
