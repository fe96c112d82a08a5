use Rattle.std.proofs.Common.{sym, subst, List}
use Rattle.pv_step_lines.proofs.OfAnswers.ProcessSequence.{fewer-after, next-record}
use Rattle.pv_explore.proofs.CellsAfterSteps.{LeavesCells, cells-end, cells-more-record, cells-start, lead-grew}
use Rattle.pv_explore.proofs.StateRows.{grew-none, grew-then}
use Rattle.pv_step_cache.specs.declared.cells.Cell.{Cell}
use Rattle.pv_explore.proofs.after.process_cells.Goals as goal

pub loop-other-init : goal.loop-other-init
loop-other-init c = record {
  parts_grew = grew-none c.args.parts.now;
  groups_grew = grew-none c.args.groups.now;
  before = c.requires.before;
  cells = subst (λ (cs : List Cell). LeavesCells c.args.parts.now c.args.groups.now c.args.position.now.processes 0 cs) (sym c.new-after.ensures.items) (cells-start c.args.parts.now c.args.groups.now c.args.position.now c.parts.ensures.whole);
}

pub cell_beside-requires-clause-before : goal.cell_beside-requires-clause-before
cell_beside-requires-clause-before c = c.loop-other.invariant.before

pub returns-in_err-cell-clause-parts_grew : goal.returns-in_err-cell-clause-parts_grew
returns-in_err-cell-clause-parts_grew c = grew-then c.args.parts.now c.loop-other.parts c.cell_beside.new.parts c.loop-other.invariant.parts_grew c.cell_beside.ensures.parts_grew

pub returns-in_err-cell-clause-groups_grew : goal.returns-in_err-cell-clause-groups_grew
returns-in_err-cell-clause-groups_grew c = grew-then c.args.groups.now c.loop-other.groups c.cell_beside.new.groups c.loop-other.invariant.groups_grew c.cell_beside.ensures.groups_grew

pub returns-in_err-push_cell-clause-parts_grew : goal.returns-in_err-push_cell-clause-parts_grew
returns-in_err-push_cell-clause-parts_grew c = grew-then c.args.parts.now c.loop-other.parts c.cell_beside.new.parts c.loop-other.invariant.parts_grew c.cell_beside.ensures.parts_grew

pub returns-in_err-push_cell-clause-groups_grew : goal.returns-in_err-push_cell-clause-groups_grew
returns-in_err-push_cell-clause-groups_grew c = grew-then c.args.groups.now c.loop-other.groups c.cell_beside.new.groups c.loop-other.invariant.groups_grew c.cell_beside.ensures.groups_grew

pub loop-other-smaller : goal.loop-other-smaller
loop-other-smaller c =
    let rs = c.args.position.now.processes in
    let next = next-record c.loop-other.last c.in-Some.other rs c.parts.ensures.whole.processes.ascending (sym c.in-Some.ensures) in fewer-after c.loop-other.last c.in-Some.other rs next

pub loop-other-preserved : goal.loop-other-preserved
loop-other-preserved c =
    let rs = c.args.position.now.processes in
    let parts = c.loop-other.parts in
    let groups = c.loop-other.groups in
    let parts_now = c.cell_beside.new.parts in
    let groups_now = c.cell_beside.new.groups in
    let parts_grew = c.cell_beside.ensures.parts_grew in
    let groups_grew = c.cell_beside.ensures.groups_grew in
    let next = next-record c.loop-other.last c.in-Some.other rs c.parts.ensures.whole.processes.ascending (sym c.in-Some.ensures) in
    record {
      parts_grew = grew-then c.args.parts.now parts parts_now c.loop-other.invariant.parts_grew parts_grew;
      groups_grew = grew-then c.args.groups.now groups groups_now c.loop-other.invariant.groups_grew groups_grew;
      before = lead-grew parts groups parts_now groups_now parts_grew groups_grew c.args.cells.now c.args.pid c.args.inside c.args.position.now c.loop-other.invariant.before;
      cells =
          cells-more-record parts groups parts_now groups_now parts_grew groups_grew rs c.loop-other.last c.in-Some.other c.loop-other.after.items _ c.in_ok-cell.cell next c.loop-other.invariant.cells c.in_ok-cell.ensures.cell
          c.in_ok-push_cell.ensures;
    }

pub returns-clause-parts_grew : goal.returns-clause-parts_grew
returns-clause-parts_grew c = c.loop-other.invariant.parts_grew

pub returns-clause-groups_grew : goal.returns-clause-groups_grew
returns-clause-groups_grew c = c.loop-other.invariant.groups_grew

pub returns-clause-cells : goal.returns-clause-cells
returns-clause-cells c = cells-end c.loop-other.parts c.loop-other.groups c.args.position.now.processes c.loop-other.last c.loop-other.after.items (sym c.in_default.ensures) c.loop-other.invariant.cells
