use Rattle.std.proofs.Common.{◌≤◌, ◌+◌, [], length}
use Rattle.pv_source.specs.Reading.{numbered_lines, numbered_text}
use Rattle.pv_model.specs.Machine.{taken_lines, invalid_lines, program_errors}
use Rattle.pv_source.proofs.ReportedLines.{ReportedSoFar}
use Rattle.pv_source.proofs.judging.report_taken.Given as goal

abbrev pub invariant-loop-line : goal.invariant-loop-line
invariant-loop-line l = record {
  reported :
      ReportedSoFar l.fn.faults l.faults (invalid_lines l.count [] l.before (taken_lines (numbered_text (l.body.number + l.before) l.rest)))
      (program_errors (taken_lines (numbered_lines l.body)));
  few : l.before + length l.rest ≤ length l.body.text.now;
}

abbrev pub decreases-loop-line : goal.decreases-loop-line
decreases-loop-line l = length l.rest
