use Rattle.pv_laws_classes.proofs.ShownLaws.{listed-accesses}
use Rattle.pv_laws_classes.proofs.shown.listed_accesses_happen_reduced.Goals as goal

pub returns : goal.returns
returns c = listed-accesses
