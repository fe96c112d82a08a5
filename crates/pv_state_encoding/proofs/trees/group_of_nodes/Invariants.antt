use Rattle.pv_state_encoding.specs.Groups.{parts_of}
use Rattle.pv_state_encoding.proofs.StateGroups.{LeavesParts}
use Rattle.pv_state_encoding.proofs.trees.group_of_nodes.Given as goal

abbrev pub invariant-loop-node : goal.invariant-loop-node
invariant-loop-node l = LeavesParts l.tree.tree.nodes l.node (parts_of l.group) l.part.items
