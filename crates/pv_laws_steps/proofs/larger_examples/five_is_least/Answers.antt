use Rattle.pv_laws_steps.proofs.FullImageExampleRuns.{five-is_least}
use Rattle.pv_laws_steps.proofs.larger_examples.five_is_least.Goals as goal

pub returns : goal.returns
returns c = five-is_least
