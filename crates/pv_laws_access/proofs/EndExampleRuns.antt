-- The ends of processes in a worked run, by computation.
use Rattle.std.proofs.Common.{refl}
use Rattle.pv_model.specs.Machine.{machine_on_literals}
use Rattle.pv_laws_access.specs.EndExamples.{EndExamples}

pub ends-happen : EndExamples
unfolding machine_on_literals
ends-happen = record { waiting = refl; forgotten = refl; over = refl }
