use Rattle.pv_laws_steps.proofs.CommuteExampleRuns.{order-happens}
use Rattle.pv_laws_steps.proofs.commute_examples.order_happens.Goals as goal

pub returns : goal.returns
returns c = order-happens
