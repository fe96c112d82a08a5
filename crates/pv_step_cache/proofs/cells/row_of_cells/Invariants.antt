use Rattle.std.proofs.Common.{◌≡◌, map, take}
use Rattle.pv_state_encoding.specs.Packed.{packed_all}
use Rattle.pv_step_cache.specs.Edits.{number_of_cell}
use Rattle.pv_step_cache.proofs.cells.row_of_cells.Given as goal

abbrev pub invariant-loop-cell : goal.invariant-loop-cell
invariant-loop-cell l = l.row.items ≡ packed_all (map number_of_cell (take l.cell-index l.cells))
