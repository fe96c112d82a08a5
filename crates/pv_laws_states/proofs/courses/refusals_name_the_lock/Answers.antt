use Rattle.pv_laws_states.proofs.CallWalks.{locks-named}
use Rattle.pv_laws_states.proofs.courses.refusals_name_the_lock.Goals as goal

pub returns : goal.returns
returns c = locks-named
