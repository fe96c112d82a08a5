use Rattle.std.proofs.Common.{take}
use Rattle.pv_step_cache.specs.Edits.{AreCellEdits}
use Rattle.pv_step_cache.proofs.cells.edits_of.Given as goal

abbrev pub invariant-loop-cell : goal.invariant-loop-cell
invariant-loop-cell l = AreCellEdits l.pid l.before (take l.cell-index l.after) l.edits.items
