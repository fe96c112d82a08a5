use Rattle.std.proofs.Common.{◌≡◌, take}
use Rattle.pv_reduced.specs.Keys.{descriptor_files, with_references}
use Rattle.pv_reduced.proofs.order.push_files_of.Given as goal

abbrev pub invariant-loop-number : goal.invariant-loop-number
invariant-loop-number l = l.order.items ≡ with_references l.fn.order.items (descriptor_files (take l.number l.descriptors))
