use Rattle.std.proofs.Common.{arith}
use Rattle.pv_blocks.specs.BlockSet.{is_member}
use Rattle.pv_blocks.proofs.BitWords.{is_set-with_bit}
use Rattle.pv_blocks.proofs.block_set.BlockSet.insert.Goals as goal

pub returns : goal.returns
unfolding is_member
returns c = record { after = is_set-with_bit c.args.self.now.words c.args.k (omega arith) }
