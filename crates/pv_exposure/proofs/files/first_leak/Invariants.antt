use Rattle.std.proofs.Common.{◌≡◌, length}
use Rattle.pv_programs.proofs.OfAnswers.ProcessSequence.{records_after}
use Rattle.pv_exposure.proofs.FirstLeaks.{first_among}
use Rattle.pv_exposure.proofs.files.first_leak.Given as goal

abbrev pub invariant-loop-pid : goal.invariant-loop-pid
invariant-loop-pid l = first_among l.parts l.node (records_after l.last l.parts.processes) ≡ first_among l.parts l.node l.parts.processes

abbrev pub decreases-loop-pid : goal.decreases-loop-pid
decreases-loop-pid l = length (records_after l.last l.parts.processes)
