-- The sizes of an image.
use Rattle.std.specs.Prelude.{ℕ, ◌+◌, ◌≤◌}
use Rattle.pv_model.specs.declared.limits.TheConstants.{INODES}
use Rattle.pv_model.specs.declared.version.Version.{Version}
use Rattle.pv_model.specs.Machine.{inode_blocks, greatest_blocks}

-- an image of this version may have these numbers of blocks and inodes
pub record AreImageSizes (v : Version) (blocks inodes : ℕ) : Type 0 where
  pub some_inodes : 1 ≤ inodes
  pub few_inodes : inodes ≤ INODES
  pub some_blocks : inode_blocks v inodes + 1 ≤ blocks
  pub few_blocks : blocks ≤ greatest_blocks v
