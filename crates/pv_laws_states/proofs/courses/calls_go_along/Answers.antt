use Rattle.pv_laws_states.proofs.CallWalks.{calls-along}
use Rattle.pv_laws_states.proofs.courses.calls_go_along.Goals as goal

pub returns : goal.returns
returns c = calls-along
