use Rattle.std.proofs.Common.{ℕ, ◌<◌, ◌∙◌, ap, option_map, w32, arith}
use Rattle.std.proofs.lemmas.Int.{to_z_pos}
use Rattle.pv_model.specs.Machine.{open_file, OpenFile}
use Rattle.pv_access.proofs.step.node_at_number.Goals as goal

pub returns-then-d-lt16 : goal.returns-then-d-lt16
returns-then-d-lt16 c = λ p at.
    let small : c.args.d < 2147483648 = omega arith in
    c.node_at_descriptor.ensures p at ∙ ap (λ z. option_map (λ (file : ℕ × OpenFile). file.1.node) (open_file c.args.parts.now p z)) (to_z_pos w32 c.args.d small)
