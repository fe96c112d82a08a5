use Rattle.std.proofs.Common.{length}
use Rattle.pv_model.specs.Machine.{answer_bytes, locations}
use Rattle.pv_answers.proofs.ProcessSequence.{records_after}
use Rattle.pv_answers.proofs.ProcessLines.{locations_of}
use Rattle.pv_streams.proofs.WriterContracts.{WritesBut}
use Rattle.pv_answers.proofs.state.write_locations.Given as goal

abbrev pub invariant-loop-pid : goal.invariant-loop-pid
invariant-loop-pid g l = WritesBut g.W.Sink (answer_bytes (locations_of (records_after l.last l.parts.processes))) (answer_bytes (locations l.parts)) l.fn.out l.out

abbrev pub decreases-loop-pid : goal.decreases-loop-pid
decreases-loop-pid g l = length (records_after l.last l.parts.processes)
