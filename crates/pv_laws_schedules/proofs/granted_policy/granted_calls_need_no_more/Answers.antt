use Rattle.pv_laws_schedules.proofs.GrantedNeeds.{calls-no_more}
use Rattle.pv_laws_schedules.proofs.granted_policy.granted_calls_need_no_more.Goals as goal

pub returns : goal.returns
returns c = calls-no_more
