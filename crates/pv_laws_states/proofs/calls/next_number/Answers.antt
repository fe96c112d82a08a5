use Rattle.pv_laws_states.proofs.CallOutcomes.{next-number}
use Rattle.pv_laws_states.proofs.calls.next_number.Goals as goal

pub returns : goal.returns
returns c = next-number
