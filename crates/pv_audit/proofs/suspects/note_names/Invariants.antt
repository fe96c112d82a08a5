use Rattle.std.proofs.Common.{length}
use Rattle.pv_model.specs.Machine.{names_of}
use Rattle.pv_audit.proofs.NameAccess.{IsNotedTo, IsOfNode}
use Rattle.pv_calls_state.specs.OfTree.NodeNames.{names_from}
use Rattle.pv_audit.proofs.suspects.note_names.Given as goal

abbrev pub invariant-loop-next : goal.invariant-loop-next
invariant-loop-next l = record {
  noted : IsNotedTo l.fn.parts (names_of l.fn.parts.tree l.node) l.next l.initial.suspects l.suspects;
  of_node : IsOfNode l.fn.parts.tree l.node l.next;
}

abbrev pub decreases-loop-next : goal.decreases-loop-next
decreases-loop-next l = length (names_from l.next (names_of l.fn.parts.tree l.node))
