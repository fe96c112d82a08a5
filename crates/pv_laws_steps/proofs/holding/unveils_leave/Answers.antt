use Rattle.pv_laws_steps.proofs.UnveilSteps.{unveils-leave}
use Rattle.pv_laws_steps.proofs.holding.unveils_leave.Goals as goal

pub returns : goal.returns
returns c = λ program_of s pid p path permissions whole at comes alive. unveils-leave program_of s pid p path permissions whole at comes alive
