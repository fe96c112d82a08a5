use Rattle.pv_laws_access.proofs.MissingPromises.{touches-by_descriptor}
use Rattle.pv_laws_access.proofs.lacking.with_stdio_touches_by_descriptor.Goals as goal

pub returns : goal.returns
returns c = touches-by_descriptor
