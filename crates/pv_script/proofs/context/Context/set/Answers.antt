use Rattle.std.proofs.Common.{◌≡◌, ◌∙◌, ap, to_z, of_z, w32, arith}
use Rattle.std.proofs.lemmas.Int.{ints}
use Rattle.pv_model.specs.Machine.{at_next_line}
use Rattle.pv_model.specs.Program.{with_register}
use Rattle.pv_script.specs.Context.{in_context, context_at_line}
use Rattle.pv_script.proofs.context.Context.set.Goals as goal

pub returns : goal.returns
returns c =
    let value : to_z w32 (of_z w32 c.args.value) ≡ c.args.value = omega (arith, ints) in
    λ p. c.line_after.ensures c.assign.new.self p ∙ ap (λ q. at_next_line (record q { line = c.args.line })) (c.assign.ensures c.args.program.now p)
    ∙ ap (λ v. at_next_line (with_register (in_context p c.args.program.now (context_at_line c.args.line c.args.self.now)) c.args.number v)) value
