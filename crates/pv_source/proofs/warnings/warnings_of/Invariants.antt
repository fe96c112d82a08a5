use Rattle.std.proofs.Common.{◌≤◌, ◌+◌, [], length, flat_map}
use Rattle.pv_source.specs.Reading.{numbered_lines}
use Rattle.pv_model.specs.Machine.{blocks_from, blocks_of}
use Rattle.pv_source.specs.Warnings.{warned_in}
use Rattle.pv_source.proofs.ReportedLines.{ReportedSoFar}
use Rattle.pv_source.proofs.warnings.warnings_of.Given as goal

abbrev pub invariant-loop-block : goal.invariant-loop-block
invariant-loop-block l = record {
  reported : ReportedSoFar [] l.warnings (flat_map warned_in (blocks_from (numbered_lines l.rest) 0)) (flat_map warned_in (blocks_of l.source));
  room : l.rest.number + length l.rest.text.now ≤ 1 + length l.source;
}

abbrev pub decreases-loop-block : goal.decreases-loop-block
decreases-loop-block l = length l.rest.text.now
