use Rattle.std.proofs.Common.{◌≤◌, ◌+◌, length, flat_map}
use Rattle.pv_source.specs.Reading.{numbered_lines}
use Rattle.pv_source.specs.Warnings.{warned_taken}
use Rattle.pv_source.proofs.ReportedLines.{ReportedSoFar}
use Rattle.pv_source.proofs.warnings.warn_taken.Given as goal

abbrev pub invariant-loop-line : goal.invariant-loop-line
invariant-loop-line l = record {
  reported : ReportedSoFar l.fn.warnings l.warnings (flat_map warned_taken (numbered_lines l.rest)) (flat_map warned_taken (numbered_lines l.fn.body));
  room : l.rest.number + length l.rest.text.now ≤ l.fn.body.number + length l.fn.body.text.now;
}

abbrev pub decreases-loop-line : goal.decreases-loop-line
decreases-loop-line l = length l.rest.text.now
