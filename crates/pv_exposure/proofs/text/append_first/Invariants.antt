use Rattle.std.proofs.Common.{◌≡◌, drop}
use Rattle.pv_exposure.specs.Stored.{all_recorded, first_at, recorded_of_file}
use Rattle.pv_exposure.proofs.text.append_first.Given as goal

abbrev pub invariant-loop-finding : goal.invariant-loop-finding
invariant-loop-finding l = record {
  same : l.out.bytes.items ≡ l.fn.out.bytes.items;
  first : first_at l.line (recorded_of_file l.file (all_recorded (drop l.finding-index l.findings))) ≡ first_at l.line (recorded_of_file l.file (all_recorded l.findings));
}
