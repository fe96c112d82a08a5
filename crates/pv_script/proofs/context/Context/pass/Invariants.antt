use Rattle.std.proofs.Common.{◌≤◌, ◌-◌}
use Rattle.pv_model.specs.Machine.{Process}
use Rattle.pv_script.specs.Context.{in_context, context_at_line}
use Rattle.pv_script.specs.Passing.{Passes}
use Rattle.pv_script.proofs.context.Context.pass.Given as goal

abbrev pub invariant-loop-made : goal.invariant-loop-made
invariant-loop-made l = record {
  few : l.made ≤ l.most;
  passed : (p : Process) → Passes l.made (in_context p l.program l.initial.self) (in_context p l.program (context_at_line l.line l.self));
}

abbrev pub decreases-loop-made : goal.decreases-loop-made
decreases-loop-made l = l.most - l.made
