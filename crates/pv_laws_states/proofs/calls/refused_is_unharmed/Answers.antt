use Rattle.pv_laws_states.proofs.CallOutcomes.{refused-unharmed}
use Rattle.pv_laws_states.proofs.calls.refused_is_unharmed.Goals as goal

pub returns : goal.returns
returns c = refused-unharmed
