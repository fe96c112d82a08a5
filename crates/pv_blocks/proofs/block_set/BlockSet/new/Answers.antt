use Rattle.pv_blocks.specs.BlockSet.{is_member}
use Rattle.pv_blocks.proofs.BitWords.{is_set-zeros}
use Rattle.pv_blocks.proofs.block_set.BlockSet.new.Goals as goal

pub returns : goal.returns
unfolding is_member
returns c = record { empty = is_set-zeros 1024 }
