use Rattle.pv_laws_answers.proofs.PlaceLevels.{levels-derived}
use Rattle.pv_laws_answers.proofs.levels.levels_are_the_derivation.Goals as goal

pub returns : goal.returns
returns c = levels-derived
