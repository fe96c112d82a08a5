use Rattle.std.proofs.Common.{flat_map, take}
use Rattle.pv_model.specs.Machine.{file_numbers, option_numbers}
use Rattle.pv_state_encoding.specs.Packed.{IsAdded}
use Rattle.pv_state_encoding.proofs.files.push_each_file.Given as goal

abbrev pub invariant-loop-file : goal.invariant-loop-file
invariant-loop-file l = IsAdded (flat_map (option_numbers file_numbers) (take l.file l.files.files)) l.fn.key.items l.key.items
