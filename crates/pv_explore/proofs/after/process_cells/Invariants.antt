use Rattle.std.proofs.Common.{length}
use Rattle.pv_step_lines.proofs.OfAnswers.ProcessSequence.{records_after}
use Rattle.pv_explore.specs.Afters.{LeadTo}
use Rattle.pv_explore.specs.Rows.{Grew}
use Rattle.pv_explore.proofs.CellsAfterSteps.{LeavesCells}
use Rattle.pv_explore.proofs.after.process_cells.Given as goal

abbrev pub invariant-loop-other : goal.invariant-loop-other
invariant-loop-other l = record {
  parts_grew : Grew l.fn.parts l.parts;
  groups_grew : Grew l.fn.groups l.groups;
  before : LeadTo l.parts l.groups l.cells l.pid l.inside l.position;
  cells : LeavesCells l.parts l.groups l.position.processes l.last l.after.items;
}

abbrev pub decreases-loop-other : goal.decreases-loop-other
decreases-loop-other l = length (records_after l.last l.position.processes)
