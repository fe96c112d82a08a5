use Rattle.std.proofs.Common.{refl, arith}
use Rattle.pv_model.specs.Machine.{read_program}
use Rattle.pv_script.proofs.WholePrograms.{IsProgramSoFar-start}
use Rattle.pv_script.proofs.program.Program.parse.Goals as goal

pub loop-line-init : goal.loop-line-init
unfolding read_program
loop-line-init c = record {
  number = omega arith;
  count = rw c.new-lines.ensures.items refl;
  so_far = rw c.new-lines.ensures.items (IsProgramSoFar-start _ c.args.bytes.now _ (rw c.count_lines-line_count.ensures refl));
}
