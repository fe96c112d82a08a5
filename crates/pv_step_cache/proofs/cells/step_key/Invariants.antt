use Rattle.std.proofs.Common.{◌≡◌, [], ◌∷◌, ◌++◌, map, take}
use Rattle.pv_state_encoding.specs.Packed.{packed_all}
use Rattle.pv_step_cache.specs.Edits.{seen_number}
use Rattle.pv_step_cache.proofs.cells.step_key.Given as goal

abbrev pub invariant-loop-cell : goal.invariant-loop-cell
invariant-loop-cell l = l.key.items ≡ packed_all ((l.pid ∷ []) ++ map (seen_number l.pid) (take l.cell-index l.cells))
