use Rattle.pv_laws_steps.proofs.OffsetCalls.{offsets-alter-nothing}
use Rattle.pv_laws_steps.proofs.offsets.offsets_alter_nothing.Goals as goal

pub returns : goal.returns
returns c = offsets-alter-nothing
