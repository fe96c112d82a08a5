use Rattle.std.proofs.Common.{length}
use Rattle.pv_model.specs.Machine.{entries_of_table, names_of}
use Rattle.pv_audit.proofs.NameAccess.{IsOfNode}
use Rattle.pv_tree.specs.NodeNames.{names_from}
use Rattle.pv_exposure.proofs.EditingEntries.{IsGiving}
use Rattle.pv_exposure.proofs.edit.least_giving.Given as goal

abbrev pub invariant-loop-next : goal.invariant-loop-next
invariant-loop-next l = record {
  giving : IsGiving l.tree.tree (entries_of_table l.table.table) l.in_place (names_of l.tree.tree l.node) l.next l.least;
  of_node : IsOfNode l.tree.tree l.node l.next;
}

abbrev pub decreases-loop-next : goal.decreases-loop-next
decreases-loop-next l = length (names_from l.next (names_of l.tree.tree l.node))
