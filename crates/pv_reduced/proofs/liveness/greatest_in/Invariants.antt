use Rattle.pv_reduced.proofs.LivenessComputation.{HasGreatest}
use Rattle.pv_reduced.proofs.liveness.greatest_in.Given as goal

abbrev pub invariant-loop-bound : goal.invariant-loop-bound
invariant-loop-bound l = HasGreatest l.line l.bounds l.bound-index l.bytes
