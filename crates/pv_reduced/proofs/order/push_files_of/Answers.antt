use Rattle.std.proofs.Common.{arith}
use Rattle.pv_reduced.proofs.DescriptorOrder.{files_next}
use Rattle.pv_reduced.proofs.order.push_files_of.Goals as goal

pub loop-number-preserved : goal.loop-number-preserved
loop-number-preserved c = files_next c.args.descriptors.now c.loop-number.number _ c.args.order.now.items c.loop-number.order.items _ c.invariant.ensures (omega arith) c.loop-number.invariant c.in_ok-push_descriptor_file.ensures
