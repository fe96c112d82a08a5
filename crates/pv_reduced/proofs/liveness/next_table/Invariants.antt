use Rattle.std.proofs.Common.{◌-◌, length, suc}
use Rattle.pv_reduced.specs.Live.{variable_of}
use Rattle.pv_reduced.proofs.LivenessComputation.{HasLines}
use Rattle.pv_reduced.proofs.liveness.next_table.Given as goal

abbrev pub invariant-loop-instruction : goal.invariant-loop-instruction
invariant-loop-instruction l = HasLines l.program (variable_of l.variable) l.table l.line l.next.items

abbrev pub decreases-loop-instruction : goal.decreases-loop-instruction
decreases-loop-instruction l = suc (length l.program) - l.line
