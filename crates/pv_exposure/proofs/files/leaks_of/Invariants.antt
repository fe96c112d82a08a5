use Rattle.std.proofs.Common.{◌≡◌, map}
use Rattle.std.specs.List.{range_with_len}
use Rattle.pv_exposure.specs.StateFiles.{first_leak_at}
use Rattle.pv_exposure.proofs.files.leaks_of.Given as goal

abbrev pub invariant-loop-node : goal.invariant-loop-node
invariant-loop-node l = l.leaks.items ≡ map (first_leak_at l.parts) (range_with_len 0 l.node)
