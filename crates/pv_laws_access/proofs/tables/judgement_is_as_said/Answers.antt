use Rattle.pv_laws_access.proofs.JudgementRelation.{judgement-as_said}
use Rattle.pv_laws_access.proofs.tables.judgement_is_as_said.Goals as goal

pub returns : goal.returns
returns c = judgement-as_said
