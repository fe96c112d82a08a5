use Rattle.std.proofs.Common.{refl}
use Rattle.std.proofs.lemmas.Nat.Bits.{shr_and_one}
use Rattle.pv_blocks.specs.BlockSet.{is_member}
use Rattle.pv_blocks.proofs.block_set.BlockSet.contains.Goals as goal

pub returns : goal.returns
unfolding is_member
returns c = rw shr_and_one refl
