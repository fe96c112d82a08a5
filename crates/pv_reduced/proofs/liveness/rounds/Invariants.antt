use Rattle.std.proofs.Common.{◌≡◌}
use Rattle.pv_laws_classes.specs.Liveness.{rounds}
use Rattle.pv_reduced.specs.Live.{variable_of}
use Rattle.pv_reduced.proofs.liveness.rounds.Given as goal

abbrev pub invariant-loop : goal.invariant-loop
invariant-loop l = l.table.items ≡ rounds l.program (variable_of l.variable) l.counter
