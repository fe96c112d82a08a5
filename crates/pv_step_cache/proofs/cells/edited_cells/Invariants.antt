use Rattle.std.proofs.Common.{◌≡◌, map, take}
use Rattle.pv_step_cache.specs.Edits.{edited}
use Rattle.pv_step_cache.proofs.cells.edited_cells.Given as goal

abbrev pub invariant-loop-edit : goal.invariant-loop-edit
invariant-loop-edit l = l.after.items ≡ map (edited l.cells) (take l.edit-index l.edits)
