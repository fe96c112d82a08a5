use Rattle.std.proofs.Common.{length}
use Rattle.pv_answers.proofs.ProcessSequence.{records_after}
use Rattle.pv_state_encoding.specs.Encoded.{encoded_all, encoded_record}
use Rattle.pv_state_encoding.proofs.ProcessGroups.{LeavesRecords}
use Rattle.pv_state_encoding.proofs.encoded.push_encoded_processes.Given as goal

abbrev pub invariant-loop-pid : goal.invariant-loop-pid
invariant-loop-pid l = LeavesRecords encoded_record l.processes.processes l.last (encoded_all l.fn.encoded.items) (encoded_all l.encoded.items)

abbrev pub decreases-loop-pid : goal.decreases-loop-pid
decreases-loop-pid l = length (records_after l.last l.processes.processes)
