use Rattle.std.proofs.Common.{◌≤◌, length}
use Rattle.pv_text.specs.Reading.{IsFront}
use Rattle.pv_text.proofs.texts.text_after.Given as goal

abbrev pub invariant-loop-byte : goal.invariant-loop-byte
invariant-loop-byte l = record { front : IsFront l.text l.rest l.bytes; short : length l.text ≤ 1100 }

abbrev pub decreases-loop-byte : goal.decreases-loop-byte
decreases-loop-byte l = length l.rest
