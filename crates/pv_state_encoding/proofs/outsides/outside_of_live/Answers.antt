use Rattle.std.specs.FinMap.Entries.{find}
use Rattle.std.specs.Ordering.{nat_cmp}
use Rattle.pv_state_encoding.proofs.ProcessNumbers.{parent-there}
use Rattle.pv_state_encoding.proofs.outsides.outside_of_live.Goals as goal

pub unreachable-requires : goal.unreachable-requires
unreachable-requires c = let there = parent-there (find nat_cmp c.args.pid c.args.processes.now.processes) c.requires in let is = there.1 in let none = c.in_default.ensures in cc
