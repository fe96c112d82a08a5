use Rattle.pv_laws_classes.proofs.ShownLaws.{each-access}
use Rattle.pv_laws_classes.proofs.shown.each_access_is_listed_reduced.Goals as goal

pub returns : goal.returns
returns c = each-access
