use Rattle.pv_laws_classes.proofs.CanonicalForms.{canonical-alike}
use Rattle.pv_laws_classes.proofs.canonical.canonical_is_alike.Goals as goal

pub returns : goal.returns
returns c = canonical-alike
