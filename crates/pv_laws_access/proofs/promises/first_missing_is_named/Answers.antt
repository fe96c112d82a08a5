use Rattle.pv_laws_access.proofs.FirstMissing.{first-missing-named}
use Rattle.pv_laws_access.proofs.promises.first_missing_is_named.Goals as goal

pub returns : goal.returns
returns c = first-missing-named
