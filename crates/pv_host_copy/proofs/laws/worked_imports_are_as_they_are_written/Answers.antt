use Rattle.pv_host_copy.specs.GivenWorked
use Rattle.pv_host_copy.proofs.laws.worked_imports_are_as_they_are_written.Goals as goal

pub returns : goal.returns
returns c = record {
  some_entries_are_replaced = GivenWorked.some_entries_are_replaced;
  both_are_in_the_tree = GivenWorked.both_are_in_the_tree;
}
