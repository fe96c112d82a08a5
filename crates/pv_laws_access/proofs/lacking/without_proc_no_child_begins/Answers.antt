use Rattle.pv_laws_access.proofs.MissingPromises.{no-child}
use Rattle.pv_laws_access.proofs.lacking.without_proc_no_child_begins.Goals as goal

pub returns : goal.returns
returns c = no-child
