use Rattle.pv_laws_classes.proofs.ReducedSearch.{reduced-witnesses}
use Rattle.pv_laws_classes.proofs.reduced.reduced_witnesses_are_shortest.Goals as goal

pub returns : goal.returns
returns c = reduced-witnesses
