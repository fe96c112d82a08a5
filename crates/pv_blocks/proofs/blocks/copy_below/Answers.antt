use Rattle.std.proofs.Common.{◌≡◌, ◌<◌, ◌∙◌, arith, length}
use Rattle.std.proofs.lemmas.List.{length-set}
use Rattle.pv_blocks.specs.BlockStore.{block_of}
use Rattle.pv_blocks.proofs.BlockCopies.{copied_below}
use Rattle.pv_blocks.proofs.blocks.copy_below.Goals as goal

pub loop-k-preserved : goal.loop-k-preserved
loop-k-preserved c =
    let from = c.args.from.now in
    let to = c.loop-k.to in
    let k = c.loop-k.k in
    let within : k < length to.blocks = omega (arith, c.loop-k.invariant.long, c.requires.long, c.requires.end) in
    rw c.copy_block.ensures (record {
      free = c.loop-k.invariant.free;
      first = c.loop-k.invariant.first;
      long = length-set to.blocks k (block_of from k) ∙ c.loop-k.invariant.long;
      each = copied_below from c.args.to.now to k c.loop-k.invariant.each within;
    })
