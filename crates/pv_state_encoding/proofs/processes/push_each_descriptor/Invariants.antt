use Rattle.std.proofs.Common.{flat_map, take}
use Rattle.pv_model.specs.Machine.{descriptor_numbers, option_numbers}
use Rattle.pv_state_encoding.specs.Packed.{IsAdded}
use Rattle.pv_state_encoding.proofs.processes.push_each_descriptor.Given as goal

abbrev pub invariant-loop-number : goal.invariant-loop-number
invariant-loop-number l = IsAdded (flat_map (option_numbers descriptor_numbers) (take l.number l.descriptors)) l.fn.key.items l.key.items
