use Rattle.std.proofs.Common.{◌≡◌, ◌≤◌, ◌+◌, ◌++◌, length}
use Rattle.std.specs.Prelude.{flat_map}
use Rattle.pv_model.specs.Machine.{ended, blocks_from, blocks_of, written_lines, text_of_blocks}
use Rattle.pv_source.specs.Reading.{numbered_lines}
use Rattle.pv_source.proofs.texts.text_of.Given as goal

abbrev pub invariant-loop-block : goal.invariant-loop-block
invariant-loop-block l = record {
  put : l.out.items ++ ended (flat_map written_lines (blocks_from (numbered_lines l.rest) 0)) ≡ text_of_blocks (blocks_of l.source);
  room : l.rest.number + length l.rest.text.now ≤ 1 + length l.source;
}

abbrev pub decreases-loop-block : goal.decreases-loop-block
decreases-loop-block l = length l.rest.text.now
