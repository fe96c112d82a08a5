use Rattle.std.proofs.Common.{arith, rules}
use Rattle.pv_reduced.proofs.DescriptorOrder.{index_next, index_past, index_there}
use Rattle.pv_reduced.proofs.order.index_in.Goals as goal

pub loop-index-init : goal.loop-index-init
loop-index-init c = omega arith

pub loop-index-preserved : goal.loop-index-preserved
loop-index-preserved c = index_next c.args.order.now c.args.file c.loop-index.index (omega arith) (search rules) c.loop-index.invariant

pub returns-else-order-index : goal.returns-else-order-index
returns-else-order-index c = index_there c.args.order.now c.args.file c.loop-index.index (omega arith) (search rules) c.loop-index.invariant

pub returns-after-loop-index : goal.returns-after-loop-index
returns-after-loop-index c = index_past c.args.order.now c.args.file c.loop-index.index (omega arith) c.loop-index.invariant
