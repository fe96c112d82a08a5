-- Migration of the tree of an image from version 1 to version 2.
use Rattle.std.specs.Prelude.{◌≡◌, ◌↔◌, ⊤, ℕ, suc, ◌+◌, ◌-◌, Bool, ◌&&◌, if◌then◌else◌, nat_le, nat_lt, IsTrue, IsFalse, length, take, sum_by, bytes_eq, Result, Ok, Err}
use Rattle.pv_model.specs.declared.fault.ImageFault.{ImageFault}
use Rattle.pv_model.specs.declared.fault.ImageFault.TheVariants.{Short, Magic, Memory as ImageMemory}
use Rattle.pv_model.specs.declared.limits.TheConstants.{BLOCK}
use Rattle.pv_model.specs.declared.store_fault.MigrateFault.{MigrateFault}
use Rattle.pv_model.specs.declared.store_fault.MigrateFault.TheVariants.{Image, Small}
use Rattle.pv_model.specs.declared.version.Version.TheVariants.{V1, V2}
use Rattle.pv_model.specs.Machine.{Bytes, inode_blocks, magic, IsImageOf, are_image_sizes, mounted, present, need, node_length, and_then, Tree, node_at}
use Rattle.pv_image_write.specs.Placed.{lengthened}

-- the tree of an image of version 1, or the first error of the bytes; any other magic number is an error
unfoldable pub mounted_first : Bytes → Result Tree ImageFault
mounted_first bytes =
    if nat_lt (length bytes) BLOCK then Err Short
    else if bytes_eq (take 8 bytes) (magic V1) then mounted bytes
    else Err Magic

-- the number of data blocks of an image of version 2 with these numbers of blocks and inodes
abbrev pub data_blocks_v2 : ℕ → ℕ → ℕ
data_blocks_v2 blocks inodes = blocks - (inode_blocks V2 inodes + 1)

-- the number of data blocks that the nodes of a tree need in such an image
unfoldable pub needed : Tree → ℕ
needed t = sum_by (λ node. need V2 (node_length V2 node)) (present t.nodes)

-- whether an image of version 2 can have these sizes, has at least as many inodes as the tree, and has room for its
-- nodes
unfoldable pub has_room : Tree → ℕ → ℕ → Bool
has_room t blocks inodes =
    are_image_sizes V2 blocks inodes && nat_le t.inodes inodes && nat_le (needed t) (data_blocks_v2 blocks inodes)

-- the tree with the same nodes under the same numbers, in an image of version 2 of these sizes
unfoldable pub enlarged : Tree → ℕ → ℕ → Tree
enlarged t blocks inodes = record {
  nodes = lengthened (suc inodes) t.nodes;
  blocks = data_blocks_v2 blocks inodes;
  inodes = inodes;
  version = V2;
}

-- that tree, if there is room
abbrev pub enlarged_within : Tree → ℕ → ℕ → Result Tree MigrateFault
enlarged_within t blocks inodes = if has_room t blocks inodes then Ok (enlarged t blocks inodes) else Err Small

-- the result of migration: an error of the image comes before lack of room
unfoldable pub migrated : Bytes → ℕ → ℕ → Result Tree MigrateFault
migrated bytes blocks inodes = and_then Image (mounted_first bytes) (λ t. enlarged_within t blocks inodes)

-- ---- an equivalent form

-- the bytes are an image of this tree, of version 1
pub record IsFirstImageOf (bytes : Bytes) (old : Tree) : Type 0 where
  pub is_image : IsImageOf bytes old
  pub is_first : old.version ≡ V1

-- a tree in an image of version 2 of exactly these sizes, with the nodes of an older tree under the same numbers
pub record KeepsNodes (old : Tree) (blocks inodes : ℕ) (new : Tree) : Type 0 where
  pub same_nodes : (n : ℕ) → node_at new n ≡ node_at old n
  pub numbers : length new.nodes ≡ suc inodes
  pub all_blocks : inode_blocks V2 inodes + 1 + new.blocks ≡ blocks
  pub all_inodes : new.inodes ≡ inodes
  pub is_second : new.version ≡ V2

-- the bytes are an image of version 1, there is room for its tree, and the new tree keeps its nodes
pub record Migrates (bytes : Bytes) (blocks inodes : ℕ) (new : Tree) : Type 0 where
  pub old : Tree
  pub held : IsFirstImageOf bytes old
  pub roomy : IsTrue (has_room old blocks inodes)
  pub keeps : KeepsNodes old blocks inodes new

-- the bytes are an image of version 1 without room for its tree
pub record LacksRoomToMigrate (bytes : Bytes) (blocks inodes : ℕ) : Type 0 where
  pub old : Tree
  pub held : IsFirstImageOf bytes old
  pub cramped : IsFalse (has_room old blocks inodes)

-- ---- the laws

abbrev pub MigratesImages : Type 0
MigratesImages = (bytes : Bytes) (blocks inodes : ℕ) (new : Tree) → (migrated bytes blocks inodes ≡ Ok new) ↔ Migrates bytes blocks inodes new

abbrev pub SmallLacksRoom : Type 0
SmallLacksRoom = (bytes : Bytes) (blocks inodes : ℕ) → (migrated bytes blocks inodes ≡ Err Small) ↔ LacksRoomToMigrate bytes blocks inodes

abbrev pub ImagesAreJudgedFirst : Type 0
ImagesAreJudgedFirst =
    (bytes : Bytes) (blocks inodes : ℕ) (fault : ImageFault) → (migrated bytes blocks inodes ≡ Err (Image fault)) ↔ (mounted_first bytes ≡ Err fault)

-- ---- errors

-- out of memory is never reported as an error of the image
abbrev pub IsMigrateError : MigrateFault → Type 0
IsMigrateError (Image ImageMemory) = ⊥
IsMigrateError fault = ⊤

-- ---- output

-- the new bytes are an image of the migrated tree, mount as that tree, and have the same nodes under the same numbers
pub record IsMigrated (old_bytes : Bytes) (blocks inodes : ℕ) (new_bytes : Bytes) : Type 0 where
  pub old : Tree
  pub new : Tree
  pub held : mounted old_bytes ≡ Ok old
  pub mounts : mounted new_bytes ≡ Ok new
  pub keeps : KeepsNodes old blocks inodes new
