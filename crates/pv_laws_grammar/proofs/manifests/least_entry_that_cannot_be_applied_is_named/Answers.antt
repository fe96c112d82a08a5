use Rattle.pv_laws_grammar.proofs.AppliedEntries.{IsFirstRefused-tree_of, tree_of-IsFirstRefused}
use Rattle.pv_laws_grammar.proofs.manifests.least_entry_that_cannot_be_applied_is_named.Goals as goal

pub returns : goal.returns
returns c m fault = (IsFirstRefused-tree_of m fault, tree_of-IsFirstRefused m fault)
