use Rattle.std.proofs.Common.{◌≡◌, ◌/◌, ◌%◌, refl, arith}
use Rattle.std.proofs.lemmas.Bool.{eqb-true}
use Rattle.std.proofs.lemmas.Nat.Bits.{bit_at-zero}
use Rattle.pv_blocks.specs.BlockSet.{is_member}
use Rattle.pv_blocks.proofs.block_set.BlockSet.is_clear.Goals as goal

pub returns : goal.returns
unfolding is_member
returns c = λ clear k low high.
    let word : k / 64 ≡ c.args.word = omega arith in
    rw (word, eqb-true _ _ clear, bit_at-zero (k % 64)) refl
