use Rattle.pv_laws_access.proofs.WalkDecisions.{lock-refuses-exactly}
use Rattle.pv_laws_access.proofs.table_refusals.lock_refuses_exactly.Goals as goal

pub returns : goal.returns
returns c = lock-refuses-exactly
