use Rattle.std.proofs.Common.{◌≡◌, ◌++◌, filter}
use Rattle.std.specs.List.{range_with_len}
use Rattle.pv_exposure.specs.Unnamed.{is_unnamed}
use Rattle.pv_exposure.proofs.files.push_all_unnamed.Given as goal

abbrev pub invariant-loop-node : goal.invariant-loop-node
invariant-loop-node l = l.files.items ≡ l.fn.files.items ++ filter (is_unnamed l.tree.tree) (range_with_len 0 l.node)
