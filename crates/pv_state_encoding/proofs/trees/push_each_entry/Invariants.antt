use Rattle.pv_model.specs.Machine.{entries_at}
use Rattle.pv_state_encoding.proofs.TreeNumbers.{IsEncoded}
use Rattle.pv_state_encoding.proofs.trees.push_each_entry.Given as goal

abbrev pub invariant-loop-entry : goal.invariant-loop-entry
invariant-loop-entry l = IsEncoded (entries_at l.tree.tree l.directory) l.entry l.fn.key.items l.key.items l.last
