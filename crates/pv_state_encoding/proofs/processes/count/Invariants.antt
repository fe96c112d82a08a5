use Rattle.std.proofs.Common.{◌≡◌, ◌+◌, length}
use Rattle.pv_answers.proofs.ProcessSequence.{records_after}
use Rattle.pv_state_encoding.proofs.processes.count.Given as goal

abbrev pub invariant-loop-pid : goal.invariant-loop-pid
invariant-loop-pid l = l.count + length (records_after l.last l.processes.processes) ≡ length l.processes.processes

abbrev pub decreases-loop-pid : goal.decreases-loop-pid
decreases-loop-pid l = length (records_after l.last l.processes.processes)
