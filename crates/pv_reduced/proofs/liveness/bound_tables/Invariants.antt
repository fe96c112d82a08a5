use Rattle.std.proofs.Common.{◌-◌, length, suc}
use Rattle.pv_reduced.proofs.LivenessComputation.{HasBounds}
use Rattle.pv_reduced.proofs.liveness.bound_tables.Given as goal

abbrev pub invariant-loop-instruction : goal.invariant-loop-instruction
invariant-loop-instruction l = HasBounds l.program l.line l.bounds.items

abbrev pub decreases-loop-instruction : goal.decreases-loop-instruction
decreases-loop-instruction l = suc (length l.program) - l.line
