use Rattle.std.proofs.Common.{◌≤◌, ◌+◌, suc, [], length}
use Rattle.pv_model.specs.Machine.{lines_of, blocks_from, blocks_of, errors_of_blocks}
use Rattle.pv_source.specs.LineCheck.{so_far_of}
use Rattle.pv_source.specs.Reading.{numbered_lines}
use Rattle.pv_model.specs.Source.Judged.{errors_from}
use Rattle.pv_source.proofs.ReportedLines.{ReportedSoFar}
use Rattle.pv_source.proofs.whole.faults_of.Given as goal

abbrev pub invariant-loop-block : goal.invariant-loop-block
invariant-loop-block l = record {
  reported :
      ReportedSoFar [] l.faults (errors_from (blocks_from (numbered_lines l.rest) 0) (so_far_of l.so_far))
      (errors_of_blocks (suc (length (lines_of l.source))) (blocks_of l.source));
  room : l.rest.number + length l.rest.text.now ≤ 1 + length l.source;
}

abbrev pub decreases-loop-block : goal.decreases-loop-block
decreases-loop-block l = length l.rest.text.now
