use Rattle.pv_laws_classes.proofs.ReducedSearch.{reduced-endings}
use Rattle.pv_laws_classes.proofs.reduced.reduced_endings_happen.Goals as goal

pub returns : goal.returns
returns c = reduced-endings
