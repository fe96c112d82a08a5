use Rattle.std.proofs.Common.{◌≡◌, ◌≤◌, length, take}
use Rattle.pv_needs.proofs.paths.around_last.Given as goal

abbrev pub decreases-loop-last : goal.decreases-loop-last
decreases-loop-last l = length l.front

-- the remaining bytes are a prefix
abbrev pub invariant-loop-last : goal.invariant-loop-last
invariant-loop-last l = record {
  front : l.front ≡ take (length l.front) l.bytes;
  few : length l.front ≤ length l.bytes;
}
