use Rattle.pv_laws_access.proofs.StatesAfterEnds.{exits-leave}
use Rattle.pv_laws_access.proofs.leaving.exits_leave.Goals as goal

pub returns : goal.returns
returns c = λ program_of s pid p code whole at is. exits-leave program_of s pid p whole at code is
