-- Trees whose image can be written.
use Rattle.std.specs.Prelude.{◌≡◌, ℕ, suc, ◌+◌, ◌^◌, ◌<◌, ◌≤◌, [], ◌++◌, length, Some}
use Rattle.pv_model.specs.declared.limits.TheConstants.{INODES}
use Rattle.pv_model.specs.declared.version.Version.{Version}
use Rattle.pv_model.specs.declared.version.Version.TheVariants.{V1, V2}
use Rattle.pv_model.specs.Machine.{Bytes, inode_blocks, greatest_blocks, greatest_length, Node, Tree, root, greatest_name, node_at, names_of, IsWellFormed}
use Rattle.pv_image_write.specs.Placed.{placed}
use Rattle.pv_image_write.specs.Encoding.{content_of, taken_before, first_data_block, first_block_of}

-- an upper bound of the number of names in an inode, exclusive
abbrev pub names_end : Version → ℕ
names_end V1 = 2 ^ 16
names_end V2 = 2 ^ 32

-- each node except the root has a name, the sizes are those of an image, and all nodes fit in it
pub record IsWritable (t : Tree) : Type 0 where
  pub well_formed : IsWellFormed t
  pub each_named : (n : ℕ) (node : Node) → node_at t n ≡ Some node → names_of t n ≡ [] → n ≡ root
  pub few : t.inodes ≤ INODES
  pub allowed : first_data_block t.version t.inodes + t.blocks ≤ greatest_blocks t.version
  pub short : (n : ℕ) → length (content_of t.version (node_at t n)) ≤ greatest_length t.version
  pub counted : (n : ℕ) → length (names_of t n) < names_end t.version
  pub room : taken_before t (suc t.inodes) ≤ t.blocks

-- the root and the named nodes of a tree can be written as an image of this version with these numbers of blocks and
-- inodes
pub record IsWritableAs (t : Tree) (v : Version) (blocks n : ℕ) : Type 0 where
  pub sizes : inode_blocks v n + 1 ≤ blocks
  pub names : greatest_name t.version ≤ greatest_name v
  pub inodes : t.inodes ≤ n
  pub writable : IsWritable (placed t v blocks n)

-- a part of each node up to number n, `all_inodes` or `all_contents`, follows other bytes; and the next free block
pub record AreWritten (part : Tree → ℕ → Bytes) (t : Tree) (n : ℕ) (before now : Bytes) (next : ℕ) : Type 0 where
  pub so_far : now ≡ before ++ part t n
  pub block_after : next ≡ first_block_of t (suc n)
