use Rattle.pv_laws_access.proofs.PromiseLimits.{without-cpath}
use Rattle.pv_laws_access.proofs.means.without_cpath_no_entry_changes.Goals as goal

pub returns : goal.returns
returns c = without-cpath
