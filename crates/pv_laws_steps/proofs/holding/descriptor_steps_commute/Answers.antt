use Rattle.pv_laws_steps.proofs.DescriptorSteps.{descriptors-commute}
use Rattle.pv_laws_steps.proofs.holding.descriptor_steps_commute.Goals as goal

pub returns : goal.returns
returns c = descriptors-commute
