use Rattle.pv_laws_classes.proofs.ReducedReports.{same-reduced_endings}
use Rattle.pv_laws_classes.proofs.reduced.reduced_endings_are_same.Goals as goal

pub returns : goal.returns
returns c = same-reduced_endings
