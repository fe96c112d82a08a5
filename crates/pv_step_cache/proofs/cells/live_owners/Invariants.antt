use Rattle.std.proofs.Common.{◌≡◌, take}
use Rattle.pv_step_cache.specs.Edits.{owners}
use Rattle.pv_step_cache.proofs.cells.live_owners.Given as goal

abbrev pub invariant-loop-cell : goal.invariant-loop-cell
invariant-loop-cell l = l.pids.items ≡ owners (take l.cell-index l.cells)
