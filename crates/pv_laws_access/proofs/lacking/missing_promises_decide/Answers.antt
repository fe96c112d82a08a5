use Rattle.pv_laws_access.proofs.RefusedSteps.{missing-decides}
use Rattle.pv_laws_access.proofs.lacking.missing_promises_decide.Goals as goal

pub returns : goal.returns
returns c = λ program_of s pid p call at is. missing-decides program_of s pid p at call is
