use Rattle.pv_audit.proofs.NodeDescriptors.{IsQuietTo}
use Rattle.pv_audit.proofs.reasons.least_descriptor.Given as goal

abbrev pub invariant-loop-d : goal.invariant-loop-d
invariant-loop-d l = IsQuietTo l.files.files l.descriptors l.node l.needed l.d
