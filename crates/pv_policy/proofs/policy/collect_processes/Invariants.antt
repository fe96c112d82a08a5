use Rattle.std.proofs.Common.{◌≡◌, flat_map, take}
use Rattle.pv_policy.specs.Collecting.{calls_of_process}
use Rattle.pv_policy.specs.Usage.{and_calls}
use Rattle.pv_policy.proofs.policy.collect_processes.Given as goal

abbrev pub invariant-loop-pid : goal.invariant-loop-pid
invariant-loop-pid l = record {
  same : l.visits ≡ l.initial.visits;
  collected : l.programs.items ≡ and_calls l.initial.programs.items (flat_map (calls_of_process l.granted (record { witness = l.witness; state = l.parts })) (take l.pid-index l.pids));
}
