use Rattle.pv_laws_classes.proofs.ShownLaws.{both-same}
use Rattle.pv_laws_classes.proofs.shown.both_see_the_same.Goals as goal

pub returns : goal.returns
returns c = both-same
