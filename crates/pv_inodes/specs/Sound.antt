-- The invariant of the blocks of files, and the files in them.
use Rattle.std.specs.Prelude.{◌≡◌, ℕ, suc, None, ◌+◌, ◌-◌, ◌<◌, ◌≤◌, false, true, length, slice_index_or, slice_set}
use Rattle.pv_model.specs.Machine.{greatest_length, inode_blocks, Bytes}
use Rattle.pv_model.specs.declared.version.Version.{Version}
use Rattle.pv_model.specs.declared.limits.TheConstants.{BLOCK}
use Rattle.pv_blocks.specs.BlockStore.{BlockStore}
use Rattle.pv_inodes.specs.Files.{Files, IsUsed, held}
use Rattle.pv_inodes.specs.Layout.{block_at, kind_at, size_at, owned_at, owned_count, most_owned, nodes_in, splice, with_kind, with_owned, with_size, zeros}
use Rattle.pv_inodes.specs.Owning.{IsOwning}

-- the first data block of an image
unfoldable pub first_data : Version → ℕ → ℕ
first_data version inodes = inode_blocks version inodes + 1

-- the shape of a store of blocks with this number of inodes
pub record IsShapedStore (version : Version) (st : BlockStore) (inodes : ℕ) : Type 0 where
  pub first : st.first ≡ first_data version inodes
  pub first_within : st.first ≤ length st.blocks
  pub flags : length st.free ≡ length st.blocks
  pub whole : (k : ℕ) → k < length st.blocks → length (block_at st.blocks k) ≡ BLOCK
  pub free_from : (k : ℕ) → slice_index_or st.free k false ≡ true → st.first ≤ k

-- the invariant of the blocks
pub record IsSound (version : Version) (st : BlockStore) (inodes : ℕ) : Type 0 where
  pub shape : IsShapedStore version st inodes
  pub kinds : (s : ℕ) → s < inodes → kind_at version st.blocks s ≤ 4
  pub sizes : (s : ℕ) → s < inodes → 0 < kind_at version st.blocks s → size_at version st.blocks s ≤ greatest_length version
  pub owning : IsOwning inodes (most_owned version) st.first (length st.blocks) st.free (owned_count version st.blocks) (owned_at version st.blocks)

-- the files in the blocks
unfoldable pub files_of : Version → BlockStore → ℕ → Files
files_of version st inodes = record { version = version; nodes = nodes_in version st.blocks inodes; blocks = length st.blocks - st.first }

-- each inode below `least`, numbered from 0, is in use
abbrev pub AllUsed : Files → ℕ → Type 0
AllUsed f least = (s : ℕ) → s < least → IsUsed f (suc s)

-- no inode from `most` on, numbered from 0, is in use
abbrev pub NoneUsed : Files → ℕ → Type 0
NoneUsed f most = (s : ℕ) → most ≤ s → held f (suc s) ≡ None

-- the store after block k is allocated, cleared, and made the i-th block of inode s
unfoldable pub pushed : Version → BlockStore → ℕ → ℕ → ℕ → BlockStore
pushed version st s i k = record st { blocks = with_owned version (slice_set st.blocks k zeros) s i k; free = slice_set st.free k false }

-- the store with another length of inode s
unfoldable pub resized_store : Version → BlockStore → ℕ → ℕ → BlockStore
resized_store version st s size = record st { blocks = with_size version st.blocks s size }

-- the store with block k overwritten from an offset on
unfoldable pub patched : BlockStore → ℕ → ℕ → Bytes → BlockStore
patched st k at new = record st { blocks = splice st.blocks k at new }

-- the store with another kind field of inode s
unfoldable pub rekinded : Version → BlockStore → ℕ → ℕ → BlockStore
rekinded version st s kind = record st { blocks = with_kind version st.blocks s kind }
