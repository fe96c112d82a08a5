use Rattle.pv_laws_access.proofs.MissingPromises.{tables-preserved}
use Rattle.pv_laws_access.proofs.lacking.without_unveil_tables_stay.Goals as goal

pub returns : goal.returns
returns c = λ program_of s pid p q whole at none there. tables-preserved program_of s pid p q whole at none there
