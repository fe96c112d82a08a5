use Rattle.pv_model.specs.Machine.{find_entry}
use Rattle.pv_namei.specs.Cached.{FitsMap}
use Rattle.pv_tests_tree.proofs.cache.look_for_absent.Given as goal

-- the cached answers are those of the tree
abbrev pub invariant-loop-number : goal.invariant-loop-number
invariant-loop-number g l = FitsMap l.lookup.answers (find_entry l.tree.tree)
