use Rattle.pv_laws_access.proofs.JustifiedGains.{gains-justified}
use Rattle.pv_laws_access.proofs.justice.gains_are_justified.Goals as goal

pub returns : goal.returns
returns c = gains-justified
