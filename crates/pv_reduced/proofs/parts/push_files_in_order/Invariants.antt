use Rattle.std.proofs.Common.{flat_map, take}
use Rattle.pv_model.specs.Machine.{file_numbers, option_numbers, at_number}
use Rattle.pv_state_encoding.specs.Packed.{IsAdded}
use Rattle.pv_reduced.proofs.parts.push_files_in_order.Given as goal

abbrev pub invariant-loop-file : goal.invariant-loop-file
invariant-loop-file l = IsAdded (flat_map (λ n. option_numbers file_numbers (at_number l.files.files n)) (take l.file-index l.order)) l.fn.part.items l.part.items
