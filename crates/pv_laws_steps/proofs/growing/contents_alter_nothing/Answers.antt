use Rattle.pv_laws_steps.proofs.OtherBytes.{contents-alter-nothing}
use Rattle.pv_laws_steps.proofs.growing.contents_alter_nothing.Goals as goal

pub returns : goal.returns
returns c = contents-alter-nothing
