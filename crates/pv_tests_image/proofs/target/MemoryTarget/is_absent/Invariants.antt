use Rattle.std.proofs.Common.{◌≡◌, drop}
use Rattle.std.specs.Prelude.{map}
use Rattle.pv_host_copy.specs.Created.{has_no_entry}
use Rattle.pv_tests_image.specs.Memory.{entry_made}
use Rattle.pv_tests_image.proofs.target.MemoryTarget.is_absent.Given as goal

abbrev pub invariant-loop-one : goal.invariant-loop-one
invariant-loop-one l = has_no_entry l.path (map entry_made (drop l.one-index l.self.made.items)) ≡ has_no_entry l.path (map entry_made l.self.made.items)
