use Rattle.pv_laws_access.proofs.MissingPromises.{no-image}
use Rattle.pv_laws_access.proofs.lacking.without_exec_no_image_begins.Goals as goal

pub returns : goal.returns
returns c = no-image
