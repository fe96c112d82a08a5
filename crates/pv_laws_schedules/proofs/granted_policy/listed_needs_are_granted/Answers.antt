use Rattle.pv_laws_schedules.proofs.GrantedNeeds.{listed-granted}
use Rattle.pv_laws_schedules.proofs.granted_policy.listed_needs_are_granted.Goals as goal

pub returns : goal.returns
returns c = listed-granted
