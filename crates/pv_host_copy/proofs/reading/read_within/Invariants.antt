use Rattle.std.proofs.Common.{◌≡◌, ◌-◌, ◌+◌, vec_len}
use Rattle.pv_streams.specs.Sources.{before_all}
use Rattle.pv_host_copy.proofs.reading.read_within.Given as goal

abbrev pub invariant-loop-chunk : goal.invariant-loop-chunk
invariant-loop-chunk g l = g.F.HostFile.bytes l.initial.file ≡ before_all l.bytes.items (g.F.HostFile.bytes l.file)

abbrev pub decreases-loop-chunk : goal.decreases-loop-chunk
decreases-loop-chunk g l = (l.limit + 1) - vec_len l.bytes
