use Rattle.pv_laws_classes.proofs.CanonicalForms.{equivalence}
use Rattle.pv_laws_classes.proofs.canonical.alike_is_equivalence.Goals as goal

pub returns : goal.returns
returns c = equivalence
