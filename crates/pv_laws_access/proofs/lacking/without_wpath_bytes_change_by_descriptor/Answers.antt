use Rattle.pv_laws_access.proofs.MissingPromises.{bytes-by_descriptor}
use Rattle.pv_laws_access.proofs.lacking.without_wpath_bytes_change_by_descriptor.Goals as goal

pub returns : goal.returns
returns c = bytes-by_descriptor
