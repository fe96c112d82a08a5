use Rattle.pv_laws_steps.proofs.GrowthExampleRuns.{growing-happens}
use Rattle.pv_laws_steps.proofs.commute_examples.growing_happens.Goals as goal

pub returns : goal.returns
returns c = growing-happens
