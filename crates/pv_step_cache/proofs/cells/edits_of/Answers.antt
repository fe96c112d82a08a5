use Rattle.pv_step_cache.proofs.CellLists.{edits-next}
use Rattle.pv_step_cache.proofs.cells.edits_of.Goals as goal

pub loop-cell-preserved : goal.loop-cell-preserved
loop-cell-preserved c = edits-next c.args.pid c.args.before.now c.args.after.now c.loop-cell.cell-index _ c.loop-cell.edits.items _ c.in-Some.edit c.loop-cell-test.true c.in_ok-push.ensures.items c.in-Some.ensures c.loop-cell.invariant
