use Rattle.pv_questions.proofs.EqualInputs.{appears_alone}
use Rattle.pv_questions.proofs.laws.manifests_stand_alone.Goals as goal

pub returns : goal.returns
returns c = appears_alone
