use Rattle.std.proofs.Common.{◌∙◌, ◌++◌, ap, refl, sym, arith}
use Rattle.std.specs.Prelude.{flat_map}
use Rattle.std.proofs.lemmas.List.{append-nil}
use Rattle.pv_model.specs.Machine.{ended, blocks_of}
use Rattle.pv_source.specs.Located.{located_block_lines, located_lines}
use Rattle.pv_source.proofs.located.located_lines.Goals as goal

pub loop-block-init : goal.loop-block-init
unfolding blocks_of
loop-block-init c = record { put = rw c.new-out.ensures.items refl; room = omega arith }

pub returns : goal.returns
unfolding located_lines
returns c =
    sym (append-nil c.loop-block.out.items) ∙ ap (λ blocks. c.loop-block.out.items ++ ended (flat_map located_block_lines blocks)) (sym c.in_default.ensures.block) ∙ c.loop-block.invariant.put
