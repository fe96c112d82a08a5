use Rattle.pv_laws_access.proofs.WalkDecisions.{table-refuses}
use Rattle.pv_laws_access.proofs.table_refusals.table_refuses_exactly.Goals as goal

pub returns : goal.returns
returns c = table-refuses
