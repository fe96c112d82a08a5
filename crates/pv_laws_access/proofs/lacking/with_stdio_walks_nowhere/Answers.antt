use Rattle.pv_laws_access.proofs.MissingPromises.{walks-nowhere}
use Rattle.pv_laws_access.proofs.lacking.with_stdio_walks_nowhere.Goals as goal

pub returns : goal.returns
returns c = walks-nowhere
