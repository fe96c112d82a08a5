use Rattle.std.proofs.Common.{flat_map, take}
use Rattle.pv_model.specs.Machine.{integer_numbers}
use Rattle.pv_state_encoding.specs.Packed.{IsAdded}
use Rattle.pv_state_encoding.proofs.processes.push_each_register.Given as goal

abbrev pub invariant-loop-register : goal.invariant-loop-register
invariant-loop-register l = IsAdded (flat_map integer_numbers (take l.register-index l.registers)) l.fn.key.items l.key.items
