use Rattle.std.proofs.Common.{◌+◌, ◌/◌, arith}
use Rattle.pv_blocks.specs.BlockSet.{is_member}
use Rattle.pv_blocks.proofs.BitWords.{is_set-copied}
use Rattle.pv_blocks.proofs.block_set.BlockSet.copy_from.Goals as goal

pub returns : goal.returns
unfolding is_member
returns c = λ k below. is_set-copied c.copy_from_slice.new.self _ c.args.other.now.words (c.args.count / 64 + 1) k c.copy_from_slice.ensures.after (omega arith) (omega arith)
