-- The refusals of two worked runs, by computation.
use Rattle.std.proofs.Common.{refl}
use Rattle.pv_model.specs.Machine.{machine_on_literals}
use Rattle.pv_laws_access.specs.RefusalExamples.{RefusalExamples}

pub refusals-happen : RefusalExamples
unfolding machine_on_literals
refusals-happen = record { none_governs = refl; lacks_permission = refl; would_widen = refl; locked = refl; increase = refl; exec_increase = refl; kill = refl; missing = refl }
