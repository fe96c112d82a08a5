use Rattle.std.proofs.Common.{length}
use Rattle.pv_model.specs.Machine.{answer_bytes, state_lines}
use Rattle.pv_answers.proofs.ProcessSequence.{records_after}
use Rattle.pv_answers.proofs.ProcessLines.{lines_of_all}
use Rattle.pv_streams.proofs.WriterContracts.{WritesBut}
use Rattle.pv_answers.proofs.state.write_state.Given as goal

abbrev pub invariant-loop-pid : goal.invariant-loop-pid
invariant-loop-pid g l = WritesBut g.W.Sink (answer_bytes (lines_of_all l.parts (records_after l.last l.parts.processes))) (answer_bytes (state_lines l.parts)) l.fn.out l.out

abbrev pub decreases-loop-pid : goal.decreases-loop-pid
decreases-loop-pid g l = length (records_after l.last l.parts.processes)
