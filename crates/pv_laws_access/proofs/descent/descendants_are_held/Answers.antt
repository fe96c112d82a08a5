use Rattle.pv_laws_access.proofs.DescendantLimits.{descendants-held}
use Rattle.pv_laws_access.proofs.descent.descendants_are_held.Goals as goal

pub returns : goal.returns
returns c = descendants-held
