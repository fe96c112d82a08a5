use Rattle.std.proofs.Common.{take}
use Rattle.pv_explore.specs.VisitedStates.{AreCellsIn}
use Rattle.pv_explore.specs.Rows.{Grew}
use Rattle.pv_step_cache.specs.OfStateEncoding.Encoded.{encoded_all}
use Rattle.pv_explore.proofs.states.learn_cells.Given as goal

abbrev pub invariant-loop-group : goal.invariant-loop-group
invariant-loop-group l = record {
  parts_grew : Grew l.fn.parts l.parts;
  groups_grew : Grew l.fn.groups l.groups;
  cells : AreCellsIn l.parts l.groups (take l.group-index (encoded_all l.encoded)) l.cells.items;
}
