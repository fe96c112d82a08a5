use Rattle.pv_laws_steps.proofs.StepsOfOthers.{others-alter-nothing}
use Rattle.pv_laws_steps.proofs.beside.others_alter_nothing.Goals as goal

pub returns : goal.returns
returns c = others-alter-nothing
