use Rattle.pv_laws_access.proofs.StatesAfterEnds.{kills-leave}
use Rattle.pv_laws_access.proofs.leaving.kills_leave.Goals as goal

pub returns : goal.returns
returns c = λ program_of s pid p a whole at dies. kills-leave program_of s pid p whole at a dies
