use Rattle.std.proofs.Common.{◌≡◌, List, filter, take}
use Rattle.pv_model.specs.Machine.{Bytes, State, Tree}
use Rattle.pv_exposure.specs.StateFiles.{AreFilesOf, is_safe_at}
use Rattle.pv_exposure.proofs.programs.safe_among.Given as goal

abbrev pub invariant-loop-node : goal.invariant-loop-node
invariant-loop-node l = (given : List Bytes) (first : Tree) (s : State) → AreFilesOf given first s l.files → l.safe.items ≡ filter (λ f. is_safe_at f s) (take l.node-index l.nodes)
