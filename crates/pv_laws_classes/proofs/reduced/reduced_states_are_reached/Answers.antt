use Rattle.pv_laws_classes.proofs.ReducedSearch.{reduced-states}
use Rattle.pv_laws_classes.proofs.reduced.reduced_states_are_reached.Goals as goal

pub returns : goal.returns
returns c = reduced-states
