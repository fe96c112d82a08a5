use Rattle.std.proofs.Common.{length, ◌-◌}
use Rattle.pv_reduced.proofs.DescriptorOrder.{IsBefore}
use Rattle.pv_reduced.proofs.order.index_in.Given as goal

abbrev pub invariant-loop-index : goal.invariant-loop-index
invariant-loop-index l = IsBefore l.order l.file l.index

abbrev pub decreases-loop-index : goal.decreases-loop-index
decreases-loop-index l = length l.order - l.index
