-- Blocks and their free flags.
use Rattle.std.specs.Prelude.{◌≡◌, ℕ, ◌*◌, ◌<◌, ◌≤◌, Bool, true, false, not, ◌&&◌, if◌then◌else◌, nat_le, nat_lt, List, [], map, length, replicate, count_by, slice_get, slice_index_or, slice_set, Some}
use Rattle.std.specs.List.{range_with_len}
use Rattle.pv_model.specs.declared.limits.TheConstants.{BLOCK}
use Rattle.pv_model.specs.Machine.{Bytes, block}
use Rattle.pv_blocks.specs.declared.block_set.BlockSet.{BlockSet}
use Rattle.pv_blocks.specs.BlockSet.{is_member}

-- the blocks, a free flag for each, and the first block that can be free
pub record BlockStore : Type 0 where
  pub blocks : List Bytes
  pub free : List Bool
  pub first : ℕ

-- the first `count` blocks of some bytes
abbrev pub blocks_in_bytes : ℕ → Bytes → List Bytes
blocks_in_bytes count bytes = map (block bytes) (range_with_len 0 count)

-- the free flags of the first `count` blocks: a block is free if it is not in the set
abbrev pub free_outside : BlockSet → ℕ → List Bool
free_outside taken count = map (λ k. not (is_member taken k)) (range_with_len 0 count)

-- the free flags of the first `count` blocks: a block is free if it is neither below `first` nor in the set
abbrev pub free_from : ℕ → BlockSet → ℕ → List Bool
free_from first used count = map (λ k. nat_le first k && not (is_member used k)) (range_with_len 0 count)

abbrev pub free_count : BlockStore → ℕ
free_count s = count_by (λ free. free) s.free

abbrev pub IsFree : BlockStore → ℕ → Type 0
IsFree s k = slice_get s.free k ≡ Some true

-- block k is in use
abbrev pub IsTaken : BlockStore → ℕ → Type 0
IsTaken s k = slice_get s.free k ≡ Some false

abbrev pub take : BlockStore → ℕ → BlockStore
take s k = record s { free = slice_set s.free k false }

abbrev pub give_back : BlockStore → ℕ → BlockStore
give_back s k = record s { free = slice_set s.free k true }

abbrev pub with_block : BlockStore → ℕ → Bytes → BlockStore
with_block s k bytes = record s { blocks = slice_set s.blocks k bytes }

-- the bytes of block k
abbrev pub block_of : BlockStore → ℕ → Bytes
block_of s k = slice_index_or s.blocks k []

-- the bytes of block j after the first `count` blocks that are in use in a store were copied to another one
abbrev pub used_or_old : (from old : BlockStore) → (count j : ℕ) → Bytes
used_or_old from old count j = if nat_lt j count && not (slice_index_or from.free j true) then block_of from j else block_of old j

-- the flags and the blocks in use of a store were copied to another one
pub record CopiesUsed (from old new : BlockStore) : Type 0 where
  pub free : new.free ≡ from.free
  pub first : new.first ≡ from.first
  pub long : length new.blocks ≡ length from.blocks
  pub each : (k : ℕ) → block_of new k ≡ used_or_old from old (length from.blocks) k

-- the invariant of a store of blocks
pub record IsConsistentStore (bytes : Bytes) (taken : BlockSet) (first count free least written : ℕ) : Type 0 where
  pub whole : length bytes ≡ BLOCK * count
  pub first_within : first ≤ count
  pub reserved : (k : ℕ) → k < first → is_member taken k ≡ true
  pub counted : free ≡ count_by (λ is_free. is_free) (free_outside taken count)
  pub none_below : (k : ℕ) → k < least → is_member taken k ≡ true
  pub written_within : written ≤ first
  pub unwritten : (k : ℕ) → written ≤ k → k < first → block bytes k ≡ replicate BLOCK 0
