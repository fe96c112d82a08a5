use Rattle.pv_tree.proofs.GatheredNames.{IsGathered}
use Rattle.pv_tree.proofs.tree.Tree.of_image.Given as goal

-- the entries of the directories so far are counted
abbrev pub invariant-loop-directory : goal.invariant-loop-directory
invariant-loop-directory l = IsGathered l.directories l.directory l.parents l.names
