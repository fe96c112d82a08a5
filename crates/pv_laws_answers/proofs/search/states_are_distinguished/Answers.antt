use Rattle.pv_laws_answers.proofs.StateDecoding.{reported-apart}
use Rattle.pv_laws_answers.proofs.search.states_are_distinguished.Goals as goal

pub returns : goal.returns
returns c = reported-apart
