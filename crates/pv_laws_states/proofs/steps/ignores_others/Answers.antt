use Rattle.pv_laws_states.proofs.OtherInsidesCalls.{ignores-others}
use Rattle.pv_laws_states.proofs.steps.ignores_others.Goals as goal

pub returns : goal.returns
returns c = ignores-others
