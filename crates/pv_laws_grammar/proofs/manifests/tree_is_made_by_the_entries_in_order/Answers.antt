use Rattle.pv_laws_grammar.proofs.AppliedEntries.{AppliesAll-tree_of, tree_of-AppliesAll, manifest_tree-tree_of}
use Rattle.pv_laws_grammar.proofs.manifests.tree_is_made_by_the_entries_in_order.Goals as goal

pub returns : goal.returns
returns c = record {
  applied = λ m t. (AppliesAll-tree_of m t, tree_of-AppliesAll m t);
  made = manifest_tree-tree_of;
}
