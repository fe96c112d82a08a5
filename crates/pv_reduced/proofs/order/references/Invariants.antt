use Rattle.std.proofs.Common.{length}
use Rattle.pv_state_encoding.proofs.OfAnswers.ProcessSequence.{records_after}
use Rattle.pv_reduced.proofs.DescriptorOrder.{LeavesFiles}
use Rattle.pv_reduced.proofs.order.references.Given as goal

abbrev pub invariant-loop-pid : goal.invariant-loop-pid
invariant-loop-pid l = LeavesFiles l.processes.processes l.last l.order.items

abbrev pub decreases-loop-pid : goal.decreases-loop-pid
decreases-loop-pid l = length (records_after l.last l.processes.processes)
