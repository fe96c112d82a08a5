use Rattle.std.proofs.lemmas.Option.{slice_get-get_or}
use Rattle.pv_explore.proofs.after.cell_of.Goals as goal

pub loop-cell-init : goal.loop-cell-init
loop-cell-init c = tt

pub loop-cell-preserved : goal.loop-cell-preserved
loop-cell-preserved c = tt

pub returns-then-cell-pid : goal.returns-then-cell-pid
returns-then-cell-pid c = record {
  place = c.loop-cell.cell-index;
  at = slice_get-get_or c.args.cells.now c.loop-cell.cell-index _ c.loop-cell-test.true;
  owner = c.if-cell-pid.true;
}
