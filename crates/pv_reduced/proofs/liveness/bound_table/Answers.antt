use Rattle.pv_reduced.proofs.LivenessComputation.{bound-is}
use Rattle.pv_reduced.proofs.liveness.bound_table.Goals as goal

pub returns : goal.returns
returns c = bound-is c.args.program.now _ _ _ c.read_bound-bound.ensures c.in_ok-table.ensures
