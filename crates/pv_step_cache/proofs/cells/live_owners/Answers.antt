use Rattle.pv_step_cache.proofs.CellLists.{owners_next}
use Rattle.pv_step_cache.proofs.cells.live_owners.Goals as goal

pub loop-cell-preserved : goal.loop-cell-preserved
loop-cell-preserved c = owners_next c.args.cells.now c.loop-cell.cell-index _ c.loop-cell.pids.items c.push_owner.new.pids.items c.loop-cell-test.true c.in_ok-push_owner.ensures c.loop-cell.invariant
