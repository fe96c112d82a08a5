use Rattle.std.proofs.Common.{◌≡◌, ◌++◌, drop}
use Rattle.pv_model.specs.Machine.{answer_bytes}
use Rattle.pv_exposure.specs.Collected.{all_recorded_lines}
use Rattle.pv_exposure.specs.Stored.{all_recorded}
use Rattle.pv_exposure.proofs.ListTexts.{lines_left}
use Rattle.pv_exposure.proofs.text.append_findings.Given as goal

abbrev pub invariant-loop-finding : goal.invariant-loop-finding
invariant-loop-finding l =
    l.out.bytes.items ++ lines_left l.kind (all_recorded l.findings) l.seen (all_recorded (drop l.finding-index l.findings)) ≡ l.fn.out.bytes.items ++ answer_bytes (all_recorded_lines l.kind (all_recorded l.findings))
