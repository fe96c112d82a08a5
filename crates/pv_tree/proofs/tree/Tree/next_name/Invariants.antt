use Rattle.std.specs.Option.{option_copied}
use Rattle.pv_tree.specs.NodeNames.{last_name_of}
use Rattle.pv_tree.proofs.NextNames.{IsCut, IsDownTo}
use Rattle.pv_tree.proofs.tree.Tree.next_name.Given as goal

abbrev pub invariant-loop-directory : goal.invariant-loop-directory
invariant-loop-directory l = record {
  cut : IsCut (last_name_of l.last) l.first (option_copied l.past);
  down : IsDownTo l.fn.self.tree l.node (last_name_of l.last) l.directory;
}
