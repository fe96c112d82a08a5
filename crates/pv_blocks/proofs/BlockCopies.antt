-- Copying the blocks of a store, one by one.
use Rattle.std.proofs.Common.{◌≡◌, ℕ, ◌+◌, ◌<◌, ◌≤◌, ◌&&◌, [], cond, ltb, length, not, true, false, refl, sym, ap, ◌∙◌, inl, inr, arith}
use Rattle.std.specs.Prelude.{slice_index_or}
use Rattle.std.proofs.lemmas.Bool.{cases_eq, cases_lt, le-ltb, lt-ltb}
use Rattle.std.proofs.lemmas.List.{get_or-set_same, get_or-set_other}
use Rattle.pv_model.specs.Machine.{Bytes}
use Rattle.pv_blocks.proofs.BlockStores.{ltb-other}
use Rattle.pv_blocks.specs.BlockStore.{BlockStore, block_of, used_or_old, with_block}

-- the bytes of block j after the blocks below k of a store were copied to another one
abbrev pub below_or_old : (from old : BlockStore) → (k j : ℕ) → Bytes
below_or_old from old k j = cond (ltb j k) (block_of from j) (block_of old j)

-- the bytes of block j after the blocks in use of a store from `start` to k were copied to another one
abbrev pub past_or_old : (from old : BlockStore) → (start k j : ℕ) → Bytes
past_or_old from old start k j = cond (ltb j start) (block_of old j) (used_or_old from old k j)

-- the next block was copied
pub copied_below : (from old to : BlockStore) (k : ℕ) → ((j : ℕ) → block_of to j ≡ below_or_old from old k j) → k < length to.blocks → (j : ℕ) → block_of (with_block to k (block_of from k)) j ≡ below_or_old from old (k + 1) j
copied_below from old to k each within j = elim (cases_eq j k) [
  | inl here ↦ rw (here, lt-ltb k (k + 1) (omega arith)) (get_or-set_same to.blocks k (block_of from k) [] within)
  | inr there ↦ rw (ltb-other j k there) (get_or-set_other to.blocks k j (block_of from k) [] there ∙ each j)
]

-- free blocks are not copied
pub used_or_old-skip : (from old : BlockStore) (k m j : ℕ) → k ≤ m → ((i : ℕ) → k ≤ i → i < m → slice_index_or from.free i true ≡ true) → used_or_old from old m j ≡ used_or_old from old k j
used_or_old-skip from old k m j up free = elim (cases_lt j k) [
  | inl below ↦ rw (lt-ltb j k below, lt-ltb j m (omega arith)) refl
  | inr from_k ↦ elim (cases_lt j m) [
    | inl within ↦ rw (le-ltb j k from_k, lt-ltb j m within, free j from_k within) refl
    | inr past ↦ rw (le-ltb j k from_k, le-ltb j m past) refl
  ]
]

module _ (from old to : BlockStore) (start k : ℕ) (each : (j : ℕ) → block_of to j ≡ past_or_old from old start k j) (past : start ≤ k) where
  -- the next block is in use, and was copied
  pub copied_used : k < length to.blocks → slice_index_or from.free k true ≡ false → (j : ℕ) → block_of (with_block to k (block_of from k)) j ≡ past_or_old from old start (k + 1) j
  copied_used within used j = elim (cases_eq j k) [
    | inl here ↦ rw (here, used, le-ltb k start past, lt-ltb k (k + 1) (omega arith)) (get_or-set_same to.blocks k (block_of from k) [] within)
    | inr there ↦ rw (ltb-other j k there) (get_or-set_other to.blocks k j (block_of from k) [] there ∙ each j)
  ]

  -- the next blocks are free
  pub copied_free : (m : ℕ) → k ≤ m → ((i : ℕ) → k ≤ i → i < m → slice_index_or from.free i true ≡ true) → (j : ℕ) → block_of to j ≡ past_or_old from old start m j
  copied_free m up free j = each j ∙ ap (λ bytes. cond (ltb j start) (block_of old j) bytes) (sym (used_or_old-skip from old k m j up free))

-- the blocks below `end` were copied, and then those in use from `start` on; those between are equal in both stores
module _ (from old mid new : BlockStore) (start end : ℕ) (within : end ≤ start) (few : start ≤ length from.blocks) (below : (j : ℕ) → block_of mid j ≡ below_or_old from old end j) (past : (j : ℕ) → block_of new j ≡ past_or_old from mid start (length from.blocks) j) (same : (j : ℕ) → end ≤ j → j < start → block_of old j ≡ block_of from j) where
  pub copied_first : (j : ℕ) → j < start → block_of new j ≡ block_of from j
  copied_first j before = past j ∙ rw (lt-ltb j start before) (below j ∙ elim (cases_lt j end) [
    | inl low ↦ rw (lt-ltb j end low) refl
    | inr high ↦ rw (le-ltb j end high) (same j high before)
  ])

  pub copied_all : ((j : ℕ) → j < start → slice_index_or from.free j true ≡ false) → (j : ℕ) → block_of new j ≡ used_or_old from old (length from.blocks) j
  copied_all used j = elim (cases_lt j start) [
    | inl before ↦ rw (lt-ltb j (length from.blocks) (omega arith), used j before) (copied_first j before)
    | inr after ↦
        let kept : block_of mid j ≡ block_of old j = below j ∙ rw (le-ltb j end (omega arith)) refl in
        past j ∙ rw (le-ltb j start after) (ap (λ bytes. cond (ltb j (length from.blocks) && not (slice_index_or from.free j true)) (block_of from j) bytes) kept)
  ]
