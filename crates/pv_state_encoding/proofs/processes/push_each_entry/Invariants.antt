use Rattle.std.proofs.Common.{flat_map, take}
use Rattle.pv_model.specs.Machine.{entry_numbers, entries_of_table}
use Rattle.pv_state_encoding.specs.Packed.{IsAdded}
use Rattle.pv_state_encoding.proofs.processes.push_each_entry.Given as goal

abbrev pub invariant-loop-number : goal.invariant-loop-number
invariant-loop-number l = IsAdded (flat_map entry_numbers (take l.number (entries_of_table l.table.table))) l.fn.key.items l.key.items
