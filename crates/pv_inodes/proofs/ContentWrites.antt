-- A write to a block of contents.
use Rattle.std.proofs.Common.{◌≡◌, ℕ, ◌+◌, ◌*◌, ◌-◌, ◌/◌, ◌%◌, ◌<◌, ◌≤◌, ◌≢◌, ◌⊎◌, List, length, get_or, sym, ap, ◌∙◌, inl, inr, arith}
use Rattle.std.proofs.lemmas.Bool.{cases_eq}
use Rattle.pv_model.specs.declared.version.Version.{Version}
use Rattle.pv_model.specs.Machine.{Bytes}
use Rattle.pv_blocks.specs.BlockStore.{BlockStore}
use Rattle.pv_inodes.specs.Layout.{block_at, splice, home, kind_at, size_at, pointer_at, owned_at, owned_count, pointer_of, position_of_block, content_byte}
use Rattle.pv_inodes.specs.Sound.{IsShapedStore, IsSound, patched}
use Rattle.pv_inodes.proofs.InodeContents.{position_of_block-content, position_of_block-apart, content_byte-same}
use Rattle.pv_inodes.proofs.InodeFields.{SameHead, same_head, owned_at-same, index-is}
use Rattle.pv_inodes.proofs.InodeLayouts.{home-below, pointer_of-few, index_of, index_of-is_index}
use Rattle.pv_inodes.proofs.BlockNumbers.{over, get_or-over_below, get_or-over_within, get_or-over_above, length-splice, block_at-splice_other, block_at-splice_same, length-block_splice}

module _ (version : Version) (st : BlockStore) (inodes s j k at : ℕ) (new : Bytes) (sound : IsSound version st inodes) (below : s < inodes) (in_range : position_of_block j < owned_count version st.blocks s) (is_owned : k ≡ owned_at version st.blocks s (position_of_block j)) (fits : at + length new ≤ 512) where
  abbrev cs : List Bytes
  cs = splice st.blocks k at new

  from : st.first ≤ k
  from = rw is_owned (sound.owning.from s (position_of_block j) below in_range)

  within : k < length st.blocks
  within = rw is_owned (sound.owning.within s (position_of_block j) below in_range)

  whole : at + length new ≤ length (block_at st.blocks k)
  whole = omega (arith, sound.shape.whole k within)

  block_other : (y : ℕ) → y ≢ k → block_at (splice st.blocks k at new) y ≡ block_at st.blocks y
  block_other y differs = block_at-splice_other st.blocks k at new y differs

  block_here : block_at (splice st.blocks k at new) k ≡ over (block_at st.blocks k) at new
  block_here = block_at-splice_same st.blocks k at new within

  head : (t : ℕ) → t < inodes → SameHead version st.blocks (splice st.blocks k at new) t
  head t below_t =
      let at_home = home-below version inodes t below_t in
      let at_first = sound.shape.first in
      let from_k = from in
      same_head version st.blocks (splice st.blocks k at new) t (block_other (home version t) (λ e. omega arith))

  -- only one inode owns the block, at one position
  apart : (t i : ℕ) → t < inodes → i < owned_count version st.blocks t → owned_at version st.blocks t i ≡ k → (t ≡ s) × (i ≡ position_of_block j)
  apart t i below_t range same = sound.owning.apart t i s (position_of_block j) below_t range below in_range (same ∙ is_owned)

  pub owned_patched : (t i : ℕ) → t < inodes → i < owned_count version st.blocks t → owned_at version (splice st.blocks k at new) t i ≡ owned_at version st.blocks t i
  owned_patched t i below_t range = owned_at-same version st.blocks (splice st.blocks k at new) t i
      ((head t below_t).direct (pointer_of i) (pointer_of-few version i (omega (arith, sound.owning.few t below_t))))
      (λ following. block_other (pointer_at version st.blocks t (pointer_of i)) (λ same.
      let index = (apart t (index_of i) below_t (omega arith) (sym (index-is version st.blocks t i) ∙ same)).1 in
      position_of_block-content j (rw index at (index_of-is_index i following))))

  pub kinds_patched : (t : ℕ) → t < inodes → kind_at version (splice st.blocks k at new) t ≡ kind_at version st.blocks t
  kinds_patched t below_t = (head t below_t).kind

  pub sizes_patched : (t : ℕ) → t < inodes → size_at version (splice st.blocks k at new) t ≡ size_at version st.blocks t
  sizes_patched t below_t = (head t below_t).size

  pub blocks_patched : (t i : ℕ) → t < inodes → t ≢ s → i < owned_count version st.blocks t → block_at (splice st.blocks k at new) (owned_at version st.blocks t i) ≡ block_at st.blocks (owned_at version st.blocks t i)
  blocks_patched t i below_t differs range = block_other (owned_at version st.blocks t i) (λ same. differs (apart t i below_t range same).0)

  pub shape_patched : IsShapedStore version (patched st k at new) inodes
  unfolding patched
  shape_patched = record {
    first = sound.shape.first;
    first_within = omega (arith, sound.shape.first_within, length-splice st.blocks k at new);
    flags = sound.shape.flags ∙ sym (length-splice st.blocks k at new);
    whole = λ y y_within. elim (cases_eq y k) [
      | inl same ↦ rw same (length-block_splice st.blocks k at new within whole ∙ sound.shape.whole k within)
      | inr differs ↦ ap length (block_other y differs) ∙ sound.shape.whole y (omega (arith, length-splice st.blocks k at new))
    ];
    free_from = sound.shape.free_from;
  }

  -- the bytes of the contents in the part that was written, and outside of it
  pub byte_inside : (x : ℕ) → 512 * j + at ≤ x → x < 512 * j + at + length new → content_byte version (splice st.blocks k at new) s x ≡ get_or new (x - (512 * j + at)) 0
  unfolding content_byte
  byte_inside x following before =
      let block : x / 512 ≡ j = omega arith in
      let place : x % 512 ≡ at + (x - (512 * j + at)) = omega arith in
      rw (block, owned_patched s (position_of_block j) below in_range, ← is_owned, block_here, place) (get_or-over_within (block_at st.blocks k) at new whole (x - (512 * j + at)) (omega arith))

  pub byte_outside : (x : ℕ) → position_of_block (x / 512) < owned_count version st.blocks s → (x < 512 * j + at) ⊎ (512 * j + at + length new ≤ x) → content_byte version (splice st.blocks k at new) s x ≡ content_byte version st.blocks s x
  unfolding content_byte
  byte_outside x range outside = elim (cases_eq (x / 512) j) [
    | inl same ↦ rw (same, owned_patched s (position_of_block j) below in_range, ← is_owned, block_here) (elim outside [
      | inl before ↦ get_or-over_below (block_at st.blocks k) at new whole (x % 512) (omega arith)
      | inr following ↦ get_or-over_above (block_at st.blocks k) at new whole (x % 512) (omega arith)
    ])
    | inr differs ↦ content_byte-same version st.blocks (splice st.blocks k at new) s x (owned_patched s (position_of_block (x / 512)) below range)
        (block_other (owned_at version st.blocks s (position_of_block (x / 512))) (λ same. differs (position_of_block-apart (x / 512) j (apart s (position_of_block (x / 512)) below range same).1)))
  ]
