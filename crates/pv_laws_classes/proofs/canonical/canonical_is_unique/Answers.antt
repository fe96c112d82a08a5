use Rattle.pv_laws_classes.proofs.CanonicalForms.{unique}
use Rattle.pv_laws_classes.proofs.canonical.canonical_is_unique.Goals as goal

pub returns : goal.returns
returns c = unique
