use Rattle.std.proofs.Common.{refl, arith}
use Rattle.pv_model.specs.Machine.{blocks_of, text_of_blocks}
use Rattle.pv_source.proofs.texts.text_of.Goals as goal

pub loop-block-init : goal.loop-block-init
unfolding blocks_of text_of_blocks
loop-block-init c = record { put = rw c.new-out.ensures.items refl; room = omega arith }
