use Rattle.pv_laws_classes.proofs.LiveTables.{computed-is-closed}
use Rattle.pv_laws_classes.proofs.liveness.computed_variables_are_closed.Goals as goal

pub returns : goal.returns
returns c = computed-is-closed
