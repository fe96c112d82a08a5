use Rattle.std.proofs.Common.{◌≡◌, ◌++◌, drop}
use Rattle.std.specs.Prelude.{map}
use Rattle.pv_source.specs.Outcome.{line_and_message, message_lines, AreLines}
use Rattle.pv_source.proofs.source.faults_text.Given as goal

abbrev pub invariant-loop-fault : goal.invariant-loop-fault
invariant-loop-fault l = record {
  text : l.text.items ++ message_lines l.name (map line_and_message (drop l.fault-index l.reported)) ≡ message_lines l.name (map line_and_message l.reported);
  lines : AreLines (map line_and_message (drop l.fault-index l.reported)) → AreLines (map line_and_message l.reported);
}
