use Rattle.pv_laws_access.proofs.RefusedSteps.{error-spares}
use Rattle.pv_laws_access.proofs.lacking.error_spares.Goals as goal

pub returns : goal.returns
returns c = λ program_of s pid p a at lenient. error-spares program_of s pid p at a lenient
