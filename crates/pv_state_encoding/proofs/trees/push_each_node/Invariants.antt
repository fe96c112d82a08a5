use Rattle.std.proofs.Common.{flat_map, take}
use Rattle.pv_model.specs.Machine.{option_numbers}
use Rattle.pv_model.specs.Answers.Numbers.{node_numbers}
use Rattle.pv_state_encoding.specs.Packed.{IsAdded}
use Rattle.pv_state_encoding.proofs.trees.push_each_node.Given as goal

abbrev pub invariant-loop-node : goal.invariant-loop-node
invariant-loop-node l = IsAdded (flat_map (option_numbers node_numbers) (take l.node l.tree.tree.nodes)) l.fn.key.items l.key.items
