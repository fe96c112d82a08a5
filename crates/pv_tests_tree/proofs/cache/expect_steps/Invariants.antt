use Rattle.pv_model.specs.Machine.{find_entry}
use Rattle.pv_namei.specs.Cached.{FitsMap}
use Rattle.pv_tests_tree.proofs.cache.expect_steps.Given as goal

-- the cached answers are those of the tree
abbrev pub invariant-loop-step : goal.invariant-loop-step
invariant-loop-step g l = FitsMap l.lookup.answers (find_entry l.tree.tree)
