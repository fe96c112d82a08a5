use Rattle.pv_laws_access.proofs.Verdicts.{leaks-closed}
use Rattle.pv_laws_access.proofs.reasons.leaks_nothing_where_closed.Goals as goal

pub returns : goal.returns
returns c = leaks-closed
