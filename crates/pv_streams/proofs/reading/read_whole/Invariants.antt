use Rattle.std.proofs.Common.{◌≡◌, ◌≤◌, ◌-◌, ◌+◌, min, length, vec_len}
use Rattle.pv_streams.specs.Sources.{before_all}
use Rattle.pv_model.specs.declared.limits.TheConstants.{SOURCE_BYTES}
use Rattle.pv_streams.proofs.reading.read_whole.Given as goal

abbrev pub invariant-loop-chunk : goal.invariant-loop-chunk
invariant-loop-chunk g l = record {
  read : g.S.Source.remaining l.initial.source ≡ before_all l.bytes.items (g.S.Source.remaining l.source);
  counted : min (g.S.Source.given l.initial.source + length l.bytes.items) 18446744073709551615 ≤ g.S.Source.given l.source;
  quiet : g.S.Source.failures l.source ≡ g.S.Source.failures l.initial.source;
}

abbrev pub decreases-loop-chunk : goal.decreases-loop-chunk
decreases-loop-chunk g l = (SOURCE_BYTES + 1) - vec_len l.bytes
