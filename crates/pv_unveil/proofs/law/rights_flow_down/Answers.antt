use Rattle.pv_model.proofs.GoverningEntries.{rights_agree}
use Rattle.pv_unveil.proofs.law.rights_flow_down.Goals as goal

pub returns : goal.returns
returns c = λ t table. rights_agree t table
