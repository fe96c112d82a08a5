use Rattle.pv_laws_classes.proofs.LivenessExactness.{computed-is-read}
use Rattle.pv_laws_classes.proofs.liveness.computed_variables_are_read.Goals as goal

pub returns : goal.returns
returns c = computed-is-read
