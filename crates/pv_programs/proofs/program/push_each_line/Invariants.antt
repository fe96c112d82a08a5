use Rattle.std.proofs.Common.{flat_map, take}
use Rattle.pv_model.specs.Machine.{instruction_numbers}
use Rattle.pv_programs.specs.Appending.{AppendsNumbers}
use Rattle.pv_programs.proofs.program.push_each_line.Given as goal

abbrev pub invariant-loop-number : goal.invariant-loop-number
invariant-loop-number l = AppendsNumbers (flat_map instruction_numbers (take l.number l.program)) l.fn.out.items l.out.items
