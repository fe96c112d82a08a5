use Rattle.std.proofs.Common.{length}
use Rattle.pv_answers.proofs.ProcessSequence.{records_after}
use Rattle.pv_state_encoding.specs.Groups.{groups_of, record_parts}
use Rattle.pv_state_encoding.proofs.ProcessGroups.{LeavesRecords}
use Rattle.pv_state_encoding.proofs.processes.push_process_groups.Given as goal

abbrev pub invariant-loop-pid : goal.invariant-loop-pid
invariant-loop-pid l = LeavesRecords record_parts l.processes.processes l.last (groups_of l.fn.groups.items) (groups_of l.groups.items)

abbrev pub decreases-loop-pid : goal.decreases-loop-pid
decreases-loop-pid l = length (records_after l.last l.processes.processes)
