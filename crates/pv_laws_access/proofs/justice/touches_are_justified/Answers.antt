use Rattle.pv_laws_access.proofs.JustifiedReads.{all-justified}
use Rattle.pv_laws_access.proofs.justice.touches_are_justified.Goals as goal

pub returns : goal.returns
returns c = all-justified
