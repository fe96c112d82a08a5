use Rattle.pv_laws_answers.proofs.PlaceLevels.{levels-up}
use Rattle.pv_laws_answers.proofs.levels.levels_go_up.Goals as goal

pub returns : goal.returns
returns c = levels-up
