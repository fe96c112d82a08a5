use Rattle.pv_laws_classes.proofs.ReducedSearch.{all-reduced_endings}
use Rattle.pv_laws_classes.proofs.reduced.reduced_endings_are_all.Goals as goal

pub returns : goal.returns
returns c = all-reduced_endings
