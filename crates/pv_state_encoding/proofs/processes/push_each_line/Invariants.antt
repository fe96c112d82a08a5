use Rattle.std.proofs.Common.{flat_map, take}
use Rattle.pv_model.specs.Machine.{instruction_numbers}
use Rattle.pv_state_encoding.specs.Packed.{IsAdded}
use Rattle.pv_state_encoding.proofs.processes.push_each_line.Given as goal

abbrev pub invariant-loop-number : goal.invariant-loop-number
invariant-loop-number l = IsAdded (flat_map instruction_numbers (take l.number l.program)) l.fn.key.items l.key.items
