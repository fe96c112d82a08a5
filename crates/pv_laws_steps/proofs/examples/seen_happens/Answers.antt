use Rattle.pv_laws_steps.proofs.ExampleRuns.{seen-happens}
use Rattle.pv_laws_steps.proofs.examples.seen_happens.Goals as goal

pub returns : goal.returns
returns c = seen-happens
