use Rattle.pv_questions.proofs.WitnessTurns.{read-back}
use Rattle.pv_questions.proofs.laws.witnesses_are_read_back.Goals as goal

pub returns : goal.returns
returns c = read-back
