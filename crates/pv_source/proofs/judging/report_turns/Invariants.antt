use Rattle.std.proofs.Common.{◌≤◌, ◌+◌, length}
use Rattle.pv_source.specs.Reading.{numbered_lines}
use Rattle.pv_model.specs.Source.Judged.{invalid_turns}
use Rattle.pv_model.specs.Machine.{lines_that_count}
use Rattle.pv_source.proofs.ReportedLines.{ReportedSoFar}
use Rattle.pv_source.proofs.judging.report_turns.Given as goal

abbrev pub invariant-loop-line : goal.invariant-loop-line
invariant-loop-line l = record {
  reported : ReportedSoFar l.fn.faults l.faults (invalid_turns l.before (lines_that_count (numbered_lines l.rest))) (invalid_turns 0 (lines_that_count (numbered_lines l.fn.lines)));
  room : l.rest.number + length l.rest.text.now ≤ l.fn.lines.number + length l.fn.lines.text.now;
  few : l.before + length l.rest.text.now ≤ length l.fn.lines.text.now;
}

abbrev pub decreases-loop-line : goal.decreases-loop-line
decreases-loop-line l = length l.rest.text.now
