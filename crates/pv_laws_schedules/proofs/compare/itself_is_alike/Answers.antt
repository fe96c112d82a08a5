use Rattle.pv_laws_schedules.proofs.PairSearch.{itself-alike}
use Rattle.pv_laws_schedules.proofs.compare.itself_is_alike.Goals as goal

pub returns : goal.returns
returns c = itself-alike
