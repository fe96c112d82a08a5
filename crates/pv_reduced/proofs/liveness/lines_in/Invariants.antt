use Rattle.std.proofs.Common.{◌≡◌}
use Rattle.pv_reduced.specs.Live.{bounds_of, lines_in, tables_of}
use Rattle.pv_reduced.proofs.liveness.lines_in.Given as goal

abbrev pub invariant-loop-line : goal.invariant-loop-line
invariant-loop-line l = l.lines.items ≡ lines_in (tables_of l.tables) (bounds_of l.bounds) l.line
