use Rattle.pv_laws_states.proofs.CallWalks.{lock-refuses}
use Rattle.pv_laws_states.proofs.courses.lock_refuses_unveils.Goals as goal

pub returns : goal.returns
returns c = lock-refuses
