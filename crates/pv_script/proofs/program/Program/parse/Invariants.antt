use Rattle.std.proofs.Common.{◌≡◌, ◌≤◌, ◌+◌, length}
use Rattle.pv_model.specs.Machine.{instruction_of, read_program}
use Rattle.pv_script.proofs.WholePrograms.{IsProgramSoFar}
use Rattle.pv_script.proofs.program.Program.parse.Given as goal

abbrev pub invariant-loop-line : goal.invariant-loop-line
invariant-loop-line l = record {
  number : l.line_number ≤ 257;
  count : length l.lines.items + 1 ≡ l.line_number;
  so_far : IsProgramSoFar (instruction_of l.line_count) l.lines.items l.rest l.line_number (read_program l.bytes);
}

abbrev pub decreases-loop-line : goal.decreases-loop-line
decreases-loop-line l = length l.rest
