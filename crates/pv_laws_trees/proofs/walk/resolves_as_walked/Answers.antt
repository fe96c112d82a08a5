use Rattle.pv_laws_trees.proofs.WalkRelations.{resolves-as_walked}
use Rattle.pv_laws_trees.proofs.walk.resolves_as_walked.Goals as goal

pub returns : goal.returns
returns c = resolves-as_walked
