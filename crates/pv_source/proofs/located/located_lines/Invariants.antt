use Rattle.std.proofs.Common.{◌≡◌, ◌≤◌, ◌+◌, ◌++◌, length}
use Rattle.std.specs.Prelude.{flat_map}
use Rattle.pv_model.specs.Machine.{ended, blocks_from, blocks_of}
use Rattle.pv_source.specs.Located.{located_block_lines}
use Rattle.pv_source.specs.Reading.{numbered_lines}
use Rattle.pv_source.proofs.located.located_lines.Given as goal

abbrev pub invariant-loop-block : goal.invariant-loop-block
invariant-loop-block l = record {
  put : l.out.items ++ ended (flat_map located_block_lines (blocks_from (numbered_lines l.rest) 0)) ≡ ended (flat_map located_block_lines (blocks_of l.source));
  room : l.rest.number + length l.rest.text.now ≤ 1 + length l.source;
}

abbrev pub decreases-loop-block : goal.decreases-loop-block
decreases-loop-block l = length l.rest.text.now
