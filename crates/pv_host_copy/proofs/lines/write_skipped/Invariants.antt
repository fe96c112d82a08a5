use Rattle.std.proofs.Common.{◌≡◌, drop, flat_map}
use Rattle.std.specs.Prelude.{map}
use Rattle.pv_streams.specs.Sinks.{and_all}
use Rattle.pv_host_copy.specs.Firsts.{skipped_pair}
use Rattle.pv_host_copy.specs.Lines.{skipped_line}
use Rattle.pv_host_copy.proofs.lines.write_skipped.Given as goal

abbrev pub invariant-loop-one : goal.invariant-loop-one
invariant-loop-one g l =
    and_all (g.W.Sink.written l.out) (flat_map skipped_line (map skipped_pair (drop l.one-index l.reported))) ≡ and_all (g.W.Sink.written l.initial.out) (flat_map skipped_line (map skipped_pair l.reported))
