use Rattle.pv_laws_access.proofs.FirstMissing.{first-increase-named}
use Rattle.pv_laws_access.proofs.promises.first_increase_is_named.Goals as goal

pub returns : goal.returns
returns c = first-increase-named
