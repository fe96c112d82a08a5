use Rattle.pv_laws_steps.proofs.ExecveSteps.{execves-commute}
use Rattle.pv_laws_steps.proofs.holding.execves_commute.Goals as goal

pub returns : goal.returns
returns c = λ program_of encodes s j k p path whole apart at comes alive leaves files way. execves-commute program_of encodes s j k p path whole apart at comes leaves files way alive
