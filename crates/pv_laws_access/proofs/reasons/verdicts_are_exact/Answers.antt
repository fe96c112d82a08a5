use Rattle.pv_laws_access.proofs.Verdicts.{verdicts-exact}
use Rattle.pv_laws_access.proofs.reasons.verdicts_are_exact.Goals as goal

pub returns : goal.returns
returns c = verdicts-exact
