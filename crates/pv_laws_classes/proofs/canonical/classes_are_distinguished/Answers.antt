use Rattle.pv_laws_classes.proofs.CanonicalForms.{distinguished}
use Rattle.pv_laws_classes.proofs.canonical.classes_are_distinguished.Goals as goal

pub returns : goal.returns
returns c = distinguished
