use Rattle.pv_laws_access.proofs.RefusedSteps.{error-narrows}
use Rattle.pv_laws_access.proofs.lacking.error_narrows.Goals as goal

pub returns : goal.returns
returns c = λ program_of s pid p promises execpromises cause at lenient is. error-narrows program_of s pid p at promises execpromises cause lenient is
