use Rattle.std.proofs.Common.{length}
use Rattle.pv_state_encoding.proofs.OfAnswers.ProcessSequence.{records_after}
use Rattle.pv_laws_classes.specs.Canonical.{index_in}
use Rattle.pv_reduced.proofs.StateKeys.{LeavesParts}
use Rattle.pv_state_encoding.specs.Groups.{parts_of}
use Rattle.pv_reduced.proofs.parts.push_processes.Given as goal

abbrev pub invariant-loop-pid : goal.invariant-loop-pid
invariant-loop-pid l = LeavesParts (index_in l.order) l.processes.processes l.last (parts_of l.fn.parts) (parts_of l.parts)

abbrev pub decreases-loop-pid : goal.decreases-loop-pid
decreases-loop-pid l = length (records_after l.last l.processes.processes)
