use Rattle.pv_laws_answers.proofs.PlaceLevels.{levels-lead}
use Rattle.pv_laws_answers.proofs.levels.levels_lead_to_the_governor.Goals as goal

pub returns : goal.returns
returns c = levels-lead
