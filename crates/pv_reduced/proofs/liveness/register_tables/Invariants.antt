use Rattle.std.proofs.Common.{◌≡◌}
use Rattle.pv_reduced.specs.Live.{register_tables, tables_of}
use Rattle.pv_reduced.proofs.liveness.register_tables.Given as goal

abbrev pub invariant-loop-register : goal.invariant-loop-register
invariant-loop-register l = tables_of l.tables.items ≡ register_tables l.program l.register
