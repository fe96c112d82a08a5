use Rattle.pv_laws_steps.proofs.DescriptorSteps.{descriptors-leave}
use Rattle.pv_laws_steps.proofs.holding.descriptor_steps_leave.Goals as goal

pub returns : goal.returns
returns c = λ program_of s pid p call whole at comes changes alive others. descriptors-leave program_of s pid p call whole at comes changes alive others
