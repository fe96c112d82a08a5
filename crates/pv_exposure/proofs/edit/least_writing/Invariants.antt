use Rattle.pv_model.specs.Perms.{permission_w}
use Rattle.pv_audit.proofs.NodeDescriptors.{IsQuietTo}
use Rattle.pv_exposure.proofs.edit.least_writing.Given as goal

abbrev pub invariant-loop-d : goal.invariant-loop-d
invariant-loop-d l = IsQuietTo l.files.files l.descriptors l.node permission_w l.d
