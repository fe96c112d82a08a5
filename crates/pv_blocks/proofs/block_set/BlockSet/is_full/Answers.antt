use Rattle.std.proofs.Common.{◌≡◌, ◌/◌, ◌%◌, refl, arith}
use Rattle.std.proofs.lemmas.Bool.{eqb-true}
use Rattle.std.proofs.lemmas.Nat.Bits.{bit_at_ones}
use Rattle.pv_blocks.specs.BlockSet.{is_member}
use Rattle.pv_blocks.proofs.block_set.BlockSet.is_full.Goals as goal

pub returns : goal.returns
unfolding is_member
returns c = λ full k low high.
    let word : k / 64 ≡ c.args.word = omega arith in
    rw (word, eqb-true _ _ full, bit_at_ones 64 (k % 64) (omega arith)) refl
