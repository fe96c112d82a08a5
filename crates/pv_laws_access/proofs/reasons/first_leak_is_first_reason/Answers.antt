use Rattle.pv_laws_access.proofs.Verdicts.{first-reason}
use Rattle.pv_laws_access.proofs.reasons.first_leak_is_first_reason.Goals as goal

pub returns : goal.returns
returns c = first-reason
