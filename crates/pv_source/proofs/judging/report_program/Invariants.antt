use Rattle.std.proofs.Common.{◌≤◌, ◌+◌, length}
use Rattle.std.specs.Prelude.{map}
use Rattle.pv_source.specs.Reading.{numbered_lines}
use Rattle.pv_source.specs.ReadPrograms.{borrowed_bytes, label_value}
use Rattle.pv_model.specs.Machine.{labelled_lines, program_line_of, invalid_lines, program_errors, program_lines}
use Rattle.pv_source.proofs.ReportedLines.{ReportedSoFar}
use Rattle.pv_source.proofs.judging.report_program.Given as goal

abbrev pub invariant-loop-line : goal.invariant-loop-line
invariant-loop-line l = record {
  reported :
      ReportedSoFar l.fn.faults l.faults
      (invalid_lines l.program.count (map borrowed_bytes l.names.items) l.before (map (program_line_of (map label_value l.program.labels.items)) (labelled_lines (numbered_lines l.rest))))
      (program_errors (program_lines (numbered_lines l.fn.body)));
  room : l.rest.number + length l.rest.text.now ≤ l.fn.body.number + length l.fn.body.text.now;
  few : l.before + length l.rest.text.now ≤ length l.fn.body.text.now;
}

abbrev pub decreases-loop-line : goal.decreases-loop-line
decreases-loop-line l = length l.rest.text.now
