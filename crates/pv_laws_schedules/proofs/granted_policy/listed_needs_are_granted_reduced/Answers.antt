use Rattle.pv_laws_schedules.proofs.GrantedNeeds.{listed-granted_reduced}
use Rattle.pv_laws_schedules.proofs.granted_policy.listed_needs_are_granted_reduced.Goals as goal

pub returns : goal.returns
returns c = listed-granted_reduced
