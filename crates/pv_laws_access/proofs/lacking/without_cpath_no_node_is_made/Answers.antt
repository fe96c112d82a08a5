use Rattle.pv_laws_access.proofs.MissingPromises.{no-node_made}
use Rattle.pv_laws_access.proofs.lacking.without_cpath_no_node_is_made.Goals as goal

pub returns : goal.returns
returns c = no-node_made
