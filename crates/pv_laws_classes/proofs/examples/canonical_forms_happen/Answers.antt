use Rattle.pv_laws_classes.proofs.ClassExampleRuns.{canonical-happens}
use Rattle.pv_laws_classes.proofs.examples.canonical_forms_happen.Goals as goal

pub returns : goal.returns
returns c = canonical-happens
