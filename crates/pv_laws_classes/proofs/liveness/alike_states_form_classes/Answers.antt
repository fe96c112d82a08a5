use Rattle.pv_laws_classes.proofs.LiveClasses.{form-classes}
use Rattle.pv_laws_classes.proofs.liveness.alike_states_form_classes.Goals as goal

pub returns : goal.returns
returns c = form-classes
