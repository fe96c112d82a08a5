use Rattle.pv_questions.proofs.EqualInputs.{bundle_answers}
use Rattle.pv_questions.proofs.laws.bundles_answer_under_their_schedules.Goals as goal

pub returns : goal.returns
returns c = bundle_answers
