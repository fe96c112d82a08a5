use Rattle.std.proofs.Common.{◌≡◌, ◌≤◌, ◌-◌, length, take, drop, flat_map}
use Rattle.pv_model.specs.Machine.{quote_byte}
use Rattle.pv_streams.proofs.plain.plain_count.Given as goal

-- each iteration removes bytes from the rest
abbrev pub decreases-loop-component : goal.decreases-loop-component
decreases-loop-component l = length l.rest

-- the rest is the end of the text, and the bytes before it are quoted unchanged
abbrev pub invariant-loop-component : goal.invariant-loop-component
invariant-loop-component l = record {
  within : length l.rest ≤ length l.text;
  split : drop (length l.text - length l.rest) l.text ≡ l.rest;
  same : flat_map quote_byte (take (length l.text - length l.rest) l.text) ≡ take (length l.text - length l.rest) l.text;
}
