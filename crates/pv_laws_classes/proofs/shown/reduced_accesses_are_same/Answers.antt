use Rattle.pv_laws_classes.proofs.ShownLaws.{same-accesses}
use Rattle.pv_laws_classes.proofs.shown.reduced_accesses_are_same.Goals as goal

pub returns : goal.returns
returns c = same-accesses
