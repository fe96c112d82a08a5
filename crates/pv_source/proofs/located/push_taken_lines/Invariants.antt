use Rattle.std.proofs.Common.{◌≡◌, ◌≤◌, ◌+◌, ◌++◌, length}
use Rattle.std.specs.Prelude.{map}
use Rattle.pv_model.specs.Machine.{ended, taken_lines}
use Rattle.pv_source.specs.Located.{located_from, located_text}
use Rattle.pv_source.specs.Reading.{numbered_lines}
use Rattle.pv_source.proofs.located.push_taken_lines.Given as goal

abbrev pub invariant-loop-text : goal.invariant-loop-text
invariant-loop-text l = record {
  put :
      l.out.items ++ ended (map (located_text l.path) (located_from l.number (taken_lines (numbered_lines l.rest))))
      ≡ l.fn.out.items ++ ended (map (located_text l.path) (located_from 1 (taken_lines (numbered_lines l.fn.body))));
  room : l.rest.number + length l.rest.text.now ≤ l.fn.body.number + length l.fn.body.text.now;
  few : l.number + length l.rest.text.now ≤ 1 + length l.fn.body.text.now;
}

abbrev pub decreases-loop-text : goal.decreases-loop-text
decreases-loop-text l = length l.rest.text.now
