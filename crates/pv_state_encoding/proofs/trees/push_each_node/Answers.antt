use Rattle.std.proofs.Common.{arith}
use Rattle.pv_model.specs.Answers.Numbers.{node_numbers}
use Rattle.pv_state_encoding.proofs.MapNumbers.{added_at}
use Rattle.pv_state_encoding.proofs.trees.push_each_node.Goals as goal

pub loop-node-preserved : goal.loop-node-preserved
loop-node-preserved c =
    added_at node_numbers c.args.tree.now.tree.nodes c.loop-node.node _ _ _ _ c.sizes-sizes.ensures.present.well_formed.numbers (omega (arith, c.sizes-sizes.ensures.inodes)) c.loop-node.invariant c.in_ok-push_numbered.ensures
