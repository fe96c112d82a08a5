use Rattle.pv_laws_access.proofs.ProcessesAfterEnds.{valid-in_order}
use Rattle.pv_laws_access.proofs.growth.whole_is_in_order.Goals as goal

pub returns : goal.returns
returns c = valid-in_order
