use Rattle.pv_explain.proofs.TrueReasons.{reasons-hold}
use Rattle.pv_explain.proofs.errors.reasons_hold.Goals as goal

pub returns : goal.returns
returns c s p call e = reasons-hold s p call e
