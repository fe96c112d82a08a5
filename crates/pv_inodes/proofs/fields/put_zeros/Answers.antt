use Rattle.std.proofs.Common.{ℕ, ap, ◌∙◌, arith}
use Rattle.std.proofs.lemmas.List.{take-replicate}
use Rattle.pv_model.specs.Machine.{Bytes}
use Rattle.pv_inodes.specs.Layout.{splice}
use Rattle.pv_inodes.proofs.fields.put_zeros.Goals as goal

pub returns : goal.returns
returns c =
    c.put.ensures
    ∙ ap (λ (new : Bytes). record { blocks = splice c.args.blocks.now.blocks c.args.k c.args.at new; free = c.args.blocks.now.free; first = c.args.blocks.now.first }) (take-replicate {X = ℕ} c.args.count 512 0 (omega arith))
