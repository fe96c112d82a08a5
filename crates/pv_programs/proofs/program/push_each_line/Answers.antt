use Rattle.std.proofs.Common.{◌≡◌, ◌+◌, ◌-◌, ℕ, Some, slice_get, subst, sym, arith}
use Rattle.pv_model.specs.Machine.{instruction_numbers}
use Rattle.pv_programs.proofs.AppendedNumbers.{appends_got}
use Rattle.pv_programs.proofs.program.push_each_line.Goals as goal

pub loop-number-preserved : goal.loop-number-preserved
loop-number-preserved c =
    let n = c.loop-number.number in
    let line : n + 1 - 1 ≡ n = omega arith in
    let is = subst (λ (k : ℕ). slice_get c.args.program.now k ≡ Some c.in-Some.instruction.now) line (sym c.in-Some.ensures) in
    appends_got instruction_numbers c.args.program.now n c.in-Some.instruction.now _ _ _ is c.loop-number.invariant c.in_ok-push_instruction.ensures
