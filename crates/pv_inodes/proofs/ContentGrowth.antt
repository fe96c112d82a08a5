-- Extending, truncating and overwriting contents.
use Rattle.std.proofs.Common.{◌≡◌, ℕ, suc, ◌+◌, ◌*◌, ◌-◌, ◌/◌, ◌%◌, ◌^◌, ◌<◌, ◌≤◌, true, false, Some, length, get_or, set, refl, sym, ap, ◌∙◌, inl, inr, arith}
use Rattle.std.proofs.lemmas.Bool.{cases_eq, cases_lt}
use Rattle.std.proofs.lemmas.List.{length-set, get_or-set_other, get_or-replicate}
use Rattle.std.proofs.lemmas.Option.{slice_get-get_or}
use Rattle.pv_model.specs.declared.version.Version.{Version}
use Rattle.pv_inodes.proofs.InodeFields.{index-is}
use Rattle.pv_inodes.proofs.InodeLayouts.{index_of, IsContent}
use Rattle.pv_model.specs.Machine.{Bytes, overwrite, resize}
use Rattle.pv_blocks.specs.BlockStore.{BlockStore, IsFree, IsTaken, give_back}
use Rattle.pv_inodes.specs.Layout.{block_at, splice, kind_at, size_at, pointer_at, owned_at, owned_count, most_owned, pointer_of, wanted, position_of_block, content_byte, content_at, zeros}
use Rattle.pv_inodes.specs.Owning.{changed, IsOwning}
use Rattle.pv_inodes.specs.Sound.{IsShapedStore, IsSound, patched, pushed}
use Rattle.pv_inodes.proofs.ChangedInode.{Becomes, Ready}
use Rattle.pv_inodes.proofs.ByteLists.{overwrite-over, length-resize_longer, get_or-resize_front, get_or-resize_after, length-resize_shorter, get_or-resize_shorter}
use Rattle.pv_inodes.proofs.InodeContents.{wanted-same, position_of_block-content, position_of_block-needed, owned_count-used, owned_count-same, content_byte-same, length-content_at, get_or-content_at}
use Rattle.pv_inodes.proofs.BlockOwners.{changed-same, changed-other, owning-same, owning-give}
use Rattle.pv_inodes.proofs.ContentWrites.{owned_patched, kinds_patched, sizes_patched, blocks_patched, shape_patched, byte_inside, byte_outside}
use Rattle.pv_inodes.proofs.BlockAllocation.{is_pushed}
use Rattle.pv_inodes.proofs.BlockNumbers.{over, length-over, get_or-over_below, get_or-over_within, get_or-over_above, length-splice}

-- setting the same value changes nothing
changed-unchanged : (count : ℕ → ℕ) (s n t : ℕ) → count s ≡ n → changed count s n t ≡ count t
changed-unchanged count s n t same = elim (cases_eq t s) [
  | inl equal ↦ rw equal (changed-same count s n ∙ sym same)
  | inr differs ↦ changed-other count s n t differs
]

changed-changed : (count : ℕ → ℕ) (s m n t : ℕ) → changed (changed count s m) s n t ≡ changed count s n t
changed-changed count s m n t = elim (cases_eq t s) [
  | inl equal ↦ rw equal (changed-same (changed count s m) s n ∙ sym (changed-same count s n))
  | inr differs ↦ changed-other (changed count s m) s n t differs ∙ changed-other count s m t differs ∙ sym (changed-other count s n t differs)
]

-- the last block of contents that end within it
last_block : (size : ℕ) → 0 < size % 512 → (size - 1) / 512 ≡ size / 512
last_block size partly = omega arith

same_count : (size v : ℕ) → size ≤ v → v ≤ 512 * (size / 512 + 1) → 0 < size % 512 → (v + 511) / 512 ≡ (size + 511) / 512
same_count size v longer within partly = omega arith

module _ (version : Version) (st : BlockStore) (inodes s : ℕ) (sound : IsSound version st inodes) (below : s < inodes) (used : 0 < kind_at version st.blocks s) where
  pub count_is : owned_count version st.blocks s ≡ wanted (size_at version st.blocks s)
  count_is = owned_count-used version st.blocks s used

  long_is : length (content_at version st.blocks s) ≡ size_at version st.blocks s
  long_is = length-content_at version st.blocks s

-- zeros are written after the contents, in their last block
module _ (version : Version) (st : BlockStore) (inodes s : ℕ) (sound : IsSound version st inodes) (below : s < inodes) (used : 0 < kind_at version st.blocks s) (k v at : ℕ) (new : Bytes) (longer : size_at version st.blocks s ≤ v) (within : v ≤ 512 * (size_at version st.blocks s / 512 + 1)) (partly : 0 < size_at version st.blocks s % 512) (at_is : at ≡ size_at version st.blocks s % 512) (is_owned : k ≡ owned_at version st.blocks s (position_of_block (size_at version st.blocks s / 512))) (long : length new ≡ v - size_at version st.blocks s) (none : (x : ℕ) → get_or new x 0 ≡ 0) where
  range_within : position_of_block (size_at version st.blocks s / 512) < owned_count version st.blocks s
  range_within =
      let last = last_block (size_at version st.blocks s) partly in
      let count = count_is version st inodes s sound below used in
      rw (count, ← last) (position_of_block-needed (size_at version st.blocks s) (size_at version st.blocks s - 1) (omega arith))

  fits_within : at + length new ≤ 512
  fits_within = omega arith

  start : 512 * (size_at version st.blocks s / 512) + at ≡ size_at version st.blocks s
  start = omega arith

  bytes_within : (x : ℕ) → x < v → content_byte version (splice st.blocks k at new) s x ≡ get_or (resize (content_at version st.blocks s) v) x 0
  bytes_within x in_range =
      let size_is = long_is version st inodes s sound below used in
      let longer_content : length (content_at version st.blocks s) ≤ v = omega arith in
      elim (cases_lt x (size_at version st.blocks s)) [
        | inl before ↦
            let place : position_of_block (x / 512) < owned_count version st.blocks s = rw (count_is version st inodes s sound below used) (position_of_block-needed (size_at version st.blocks s) x before) in
            byte_outside version st inodes s (size_at version st.blocks s / 512) k at new sound below range_within is_owned fits_within x place (inl (rw start before))
            ∙ sym (get_or-resize_front (content_at version st.blocks s) v longer_content x (rw size_is before) ∙ get_or-content_at version st.blocks s x before)
        | inr following ↦
            byte_inside version st inodes s (size_at version st.blocks s / 512) k at new sound below range_within is_owned fits_within x (rw start following) (rw (start, long) (omega arith))
            ∙ none (x - (512 * (size_at version st.blocks s / 512) + at))
            ∙ sym (get_or-resize_after (content_at version st.blocks s) v longer_content x (rw size_is following) in_range)
      ]

  pub ready_within : Ready version st (patched st k at new) inodes s v (resize (content_at version st.blocks s) v)
  unfolding patched
  ready_within =
      let size_is = long_is version st inodes s sound below used in
      let needs : owned_count version st.blocks s ≡ wanted v = count_is version st inodes s sound below used ∙ sym (wanted-same v (size_at version st.blocks s) (same_count (size_at version st.blocks s) v longer within partly)) in
      let total = length-splice st.blocks k at new in
      record {
        shape = shape_patched version st inodes s (size_at version st.blocks s / 512) k at new sound below range_within is_owned fits_within;
        first = refl;
        total = total;
        owning = rw total (owning-same inodes (most_owned version) st.first (length st.blocks) st.free (owned_count version st.blocks) (changed (owned_count version st.blocks) s (wanted v)) (owned_at version st.blocks) (owned_at version (splice st.blocks k at new)) sound.owning (λ t below_t. changed-unchanged (owned_count version st.blocks) s (wanted v) t needs) (owned_patched version st inodes s (size_at version st.blocks s / 512) k at new sound below range_within is_owned fits_within));
        kinds = kinds_patched version st inodes s (size_at version st.blocks s / 512) k at new sound below range_within is_owned fits_within;
        sizes = sizes_patched version st inodes s (size_at version st.blocks s / 512) k at new sound below range_within is_owned fits_within;
        owned = λ t i below_t differs in_range. owned_patched version st inodes s (size_at version st.blocks s / 512) k at new sound below range_within is_owned fits_within t i below_t in_range;
        blocks = λ t i below_t differs in_range content. blocks_patched version st inodes s (size_at version st.blocks s / 512) k at new sound below range_within is_owned fits_within t i below_t differs in_range;
        long = length-resize_longer (content_at version st.blocks s) v (omega arith);
        bytes = bytes_within;
      }

-- a part of the contents in one block is overwritten
module _ (version : Version) (st : BlockStore) (inodes s : ℕ) (sound : IsSound version st inodes) (below : s < inodes) (used : 0 < kind_at version st.blocks s) (k at start : ℕ) (new : Bytes) (place : at ≡ start % 512) (is_owned : k ≡ owned_at version st.blocks s (position_of_block (start / 512))) (some : 0 < length new) (fits : at + length new ≤ 512) (within : start + length new ≤ size_at version st.blocks s) where
  range_written : position_of_block (start / 512) < owned_count version st.blocks s
  range_written = rw (count_is version st inodes s sound below used) (position_of_block-needed (size_at version st.blocks s) start (omega arith))

  start_is : 512 * (start / 512) + at ≡ start
  start_is = omega arith

  others_written : (t : ℕ) → t < inodes → owned_count version (splice st.blocks k at new) t ≡ owned_count version st.blocks t
  others_written t below_t = owned_count-same version st.blocks (splice st.blocks k at new) t (kinds_patched version st inodes s (start / 512) k at new sound below range_written is_owned fits t below_t) (sizes_patched version st inodes s (start / 512) k at new sound below range_written is_owned fits t below_t)

  bytes_written : (x : ℕ) → x < size_at version st.blocks s → content_byte version (splice st.blocks k at new) s x ≡ get_or (over (content_at version st.blocks s) start new) x 0
  bytes_written x in_range =
      let size_is = long_is version st inodes s sound below used in
      let room : start + length new ≤ length (content_at version st.blocks s) = omega arith in
      let place_x : position_of_block (x / 512) < owned_count version st.blocks s = rw (count_is version st inodes s sound below used) (position_of_block-needed (size_at version st.blocks s) x in_range) in
      elim (cases_lt x start) [
        | inl before ↦
            byte_outside version st inodes s (start / 512) k at new sound below range_written is_owned fits x place_x (inl (rw start_is before))
            ∙ sym (get_or-over_below (content_at version st.blocks s) start new room x before ∙ get_or-content_at version st.blocks s x in_range)
        | inr from ↦ elim (cases_lt x (start + length new)) [
          | inl inside ↦
              let back : start + (x - start) ≡ x = omega arith in
              byte_inside version st inodes s (start / 512) k at new sound below range_written is_owned fits x (rw start_is from) (rw start_is inside)
              ∙ ap (λ p. get_or new (x - p) 0) start_is
              ∙ sym (rw back at (get_or-over_within (content_at version st.blocks s) start new room (x - start) (omega arith)))
          | inr following ↦
              byte_outside version st inodes s (start / 512) k at new sound below range_written is_owned fits x place_x (inr (rw start_is following))
              ∙ sym (get_or-over_above (content_at version st.blocks s) start new room x following ∙ get_or-content_at version st.blocks s x in_range)
        ]
      ]

  pub becomes_written : Becomes version st (patched st k at new) inodes s (overwrite (content_at version st.blocks s) start new)
  unfolding patched
  becomes_written =
      let size_is = long_is version st inodes s sound below used in
      let room : start + length new ≤ length (content_at version st.blocks s) = omega arith in
      let written = overwrite-over (content_at version st.blocks s) start new (omega arith) in
      let long : length (over (content_at version st.blocks s) start new) ≡ size_at version st.blocks s = length-over (content_at version st.blocks s) start new room ∙ size_is in
      let total = length-splice st.blocks k at new in
      let kinds = kinds_patched version st inodes s (start / 512) k at new sound below range_written is_owned fits in
      let sizes = sizes_patched version st inodes s (start / 512) k at new sound below range_written is_owned fits in
      let owned = owned_patched version st inodes s (start / 512) k at new sound below range_written is_owned fits in
      record {
        sound = record {
          shape = shape_patched version st inodes s (start / 512) k at new sound below range_written is_owned fits;
          kinds = λ t below_t. rw (kinds t below_t) (sound.kinds t below_t);
          sizes = λ t below_t used_t. rw (sizes t below_t) (sound.sizes t below_t (rw (kinds t below_t) at used_t));
          owning = rw total (owning-same inodes (most_owned version) st.first (length st.blocks) st.free (owned_count version st.blocks) (owned_count version (splice st.blocks k at new)) (owned_at version st.blocks) (owned_at version (splice st.blocks k at new)) sound.owning others_written owned);
        };
        first = refl;
        total = total;
        others = λ t below_t differs. record {
          kind = kinds t below_t;
          size = sizes t below_t;
          owned = λ i in_range. owned t i below_t in_range;
          blocks = λ i in_range content. blocks_patched version st inodes s (start / 512) k at new sound below range_written is_owned fits t i below_t differs in_range;
        };
        kind = kinds s below;
        size = sizes s below ∙ sym (ap length written ∙ long);
        bytes = λ x in_range. bytes_written x (rw (written, long) at in_range) ∙ sym (ap (λ (xs : Bytes). get_or xs x 0) written);
      }

-- the store after inode s allocated blocks, up to its block n - 1
pub record Extended (version : Version) (st mid : BlockStore) (inodes s last : ℕ) : Type 0 where
  pub shape : IsShapedStore version mid inodes
  pub first : mid.first ≡ st.first
  pub total : length mid.blocks ≡ length st.blocks
  pub owning : IsOwning inodes (most_owned version) mid.first (length mid.blocks) mid.free (changed (owned_count version st.blocks) s (suc last)) (owned_at version mid.blocks)
  pub kinds : (t : ℕ) → t < inodes → kind_at version mid.blocks t ≡ kind_at version st.blocks t
  pub sizes : (t : ℕ) → t < inodes → size_at version mid.blocks t ≡ size_at version st.blocks t
  pub owned : (t i : ℕ) → t < inodes → i < owned_count version st.blocks t → owned_at version mid.blocks t i ≡ owned_at version st.blocks t i
  pub blocks : (t i : ℕ) → t < inodes → i < owned_count version st.blocks t → IsContent i → block_at mid.blocks (owned_at version st.blocks t i) ≡ block_at st.blocks (owned_at version st.blocks t i)
  pub cleared : block_at mid.blocks (owned_at version mid.blocks s last) ≡ zeros

-- one block
pub extended_once : (version : Version) (st : BlockStore) (inodes s k : ℕ) → IsSound version st inodes → s < inodes → owned_count version st.blocks s < most_owned version → k < 2 ^ 16 → IsFree st k → Extended version st (pushed version st s (owned_count version st.blocks s) k) inodes s (owned_count version st.blocks s)
extended_once version st inodes s k sound below few small is_free =
    let done = is_pushed version st inodes (owned_count version st.blocks) s k below sound.shape sound.owning few small is_free in
    record {
      shape = done.shape;
      first = done.first;
      total = done.total;
      owning = done.owning;
      kinds = done.kinds;
      sizes = done.sizes;
      owned = done.owned;
      blocks = done.blocks;
      cleared = rw done.here done.cleared;
    }

-- one more, after an index block
pub extended_again : (version : Version) (st mid : BlockStore) (inodes s n k : ℕ) → s < inodes → owned_count version st.blocks s ≡ n → Extended version st mid inodes s n → suc n < most_owned version → k < 2 ^ 16 → IsFree mid k → Extended version st (pushed version mid s (suc n) k) inodes s (suc n)
extended_again version st mid inodes s n k below owns once room small is_free =
    let count = changed-same (owned_count version st.blocks) s (suc n) in
    let few : changed (owned_count version st.blocks) s (suc n) s < most_owned version = omega (arith, count) in
    let done = rw count at (is_pushed version mid inodes (changed (owned_count version st.blocks) s (suc n)) s k below once.shape once.owning few small is_free) in
    let wider : (t i : ℕ) → i < owned_count version st.blocks t → i < changed (owned_count version st.blocks) s (suc n) t = λ t i in_range. elim (cases_eq t s) [
      | inl same ↦
          let counts : owned_count version st.blocks t ≡ n = ap (owned_count version st.blocks) same ∙ owns in
          rw (same, count) (omega arith)
      | inr differs ↦ rw (changed-other (owned_count version st.blocks) s (suc n) t differs) in_range
    ] in
    record {
      shape = done.shape;
      first = done.first ∙ once.first;
      total = done.total ∙ once.total;
      owning = owning-same inodes (most_owned version) (pushed version mid s (suc n) k).first (length (pushed version mid s (suc n) k).blocks) (pushed version mid s (suc n) k).free (changed (changed (owned_count version st.blocks) s (suc n)) s (suc (suc n))) (changed (owned_count version st.blocks) s (suc (suc n))) (owned_at version (pushed version mid s (suc n) k).blocks) (owned_at version (pushed version mid s (suc n) k).blocks) (rw count at done.owning) (λ t below_t. sym (changed-changed (owned_count version st.blocks) s (suc n) (suc (suc n)) t)) (λ t i below_t in_range. refl);
      kinds = λ t below_t. done.kinds t below_t ∙ once.kinds t below_t;
      sizes = λ t below_t. done.sizes t below_t ∙ once.sizes t below_t;
      owned = λ t i below_t in_range. done.owned t i below_t (wider t i in_range) ∙ once.owned t i below_t in_range;
      blocks = λ t i below_t in_range content. rw (once.owned t i below_t in_range) at (done.blocks t i below_t (wider t i in_range) content) ∙ once.blocks t i below_t in_range content;
      cleared = rw (rw count at done.here) done.cleared;
    }

-- zeros in newly allocated blocks extend the contents
module _ (version : Version) (st mid : BlockStore) (inodes s v last : ℕ) (sound : IsSound version st inodes) (below : s < inodes) (used : 0 < kind_at version st.blocks s) (extended : Extended version st mid inodes s last) (full : size_at version st.blocks s % 512 ≡ 0) (longer : size_at version st.blocks s ≤ v) (within : v ≤ size_at version st.blocks s + 512) (last_is : last ≡ position_of_block (size_at version st.blocks s / 512)) (needs : wanted v ≡ suc last) where
  bytes_extended : (x : ℕ) → x < v → content_byte version mid.blocks s x ≡ get_or (resize (content_at version st.blocks s) v) x 0
  unfolding content_byte zeros
  bytes_extended x in_range =
      let size_is = long_is version st inodes s sound below used in
      let longer_content : length (content_at version st.blocks s) ≤ v = omega arith in
      elim (cases_lt x (size_at version st.blocks s)) [
        | inl before ↦
            let place : position_of_block (x / 512) < owned_count version st.blocks s = rw (count_is version st inodes s sound below used) (position_of_block-needed (size_at version st.blocks s) x before) in
            content_byte-same version st.blocks mid.blocks s x (extended.owned s (position_of_block (x / 512)) below place) (extended.blocks s (position_of_block (x / 512)) below place (position_of_block-content (x / 512)))
            ∙ sym (get_or-resize_front (content_at version st.blocks s) v longer_content x (rw size_is before) ∙ get_or-content_at version st.blocks s x before)
        | inr following ↦
            let block : x / 512 ≡ size_at version st.blocks s / 512 = omega arith in
            rw (block, ← last_is, extended.cleared) (get_or-replicate {A = ℕ} 512 (x % 512) 0 0 (omega arith))
            ∙ sym (get_or-resize_after (content_at version st.blocks s) v longer_content x (rw size_is following) in_range)
      ]

  pub ready_extended : Ready version st mid inodes s v (resize (content_at version st.blocks s) v)
  ready_extended =
      let size_is = long_is version st inodes s sound below used in
      record {
        shape = extended.shape;
        first = extended.first;
        total = extended.total;
        owning = rw needs extended.owning;
        kinds = extended.kinds;
        sizes = extended.sizes;
        owned = λ t i below_t differs in_range. extended.owned t i below_t in_range;
        blocks = λ t i below_t differs in_range content. extended.blocks t i below_t in_range content;
        long = length-resize_longer (content_at version st.blocks s) v (omega arith);
        bytes = bytes_extended;
      }

-- the store after inode s freed all of its blocks except the first n
pub record Reduced (version : Version) (st mid : BlockStore) (inodes s n : ℕ) : Type 0 where
  pub blocks : mid.blocks ≡ st.blocks
  pub first : mid.first ≡ st.first
  pub flags : length mid.free ≡ length st.blocks
  pub free_from : (k : ℕ) → get_or mid.free k false ≡ true → st.first ≤ k
  pub owning : IsOwning inodes (most_owned version) st.first (length st.blocks) mid.free (changed (owned_count version st.blocks) s n) (owned_at version st.blocks)

pub reduced_none : (version : Version) (st : BlockStore) (inodes s : ℕ) → IsSound version st inodes → Reduced version st st inodes s (owned_count version st.blocks s)
reduced_none version st inodes s sound = record {
  blocks = refl;
  first = refl;
  flags = sound.shape.flags;
  free_from = sound.shape.free_from;
  owning = owning-same inodes (most_owned version) st.first (length st.blocks) st.free (owned_count version st.blocks) (changed (owned_count version st.blocks) s (owned_count version st.blocks s)) (owned_at version st.blocks) (owned_at version st.blocks) sound.owning (λ t below_t. changed-unchanged (owned_count version st.blocks) s (owned_count version st.blocks s) t refl) (λ t i below_t in_range. refl);
}

-- one more
pub reduced_more : (version : Version) (st mid : BlockStore) (inodes s n : ℕ) → s < inodes → Reduced version st mid inodes s (suc n) → Reduced version st (give_back mid (owned_at version st.blocks s n)) inodes s n
reduced_more version st mid inodes s n below so_far =
    let count = changed-same (owned_count version st.blocks) s (suc n) in
    let from = so_far.owning.from s n below (omega (arith, count)) in
    record {
      blocks = so_far.blocks;
      first = so_far.first;
      flags = length-set mid.free (owned_at version st.blocks s n) true ∙ so_far.flags;
      free_from = λ k is_set. elim (cases_eq k (owned_at version st.blocks s n)) [
        | inl same ↦ rw same from
        | inr differs ↦ so_far.free_from k (sym (get_or-set_other mid.free (owned_at version st.blocks s n) k true false differs) ∙ is_set)
      ];
      owning = owning-same inodes (most_owned version) st.first (length st.blocks) (set mid.free (owned_at version st.blocks s n) true) (changed (changed (owned_count version st.blocks) s (suc n)) s n) (changed (owned_count version st.blocks) s n) (owned_at version st.blocks) (owned_at version st.blocks)
          (owning-give inodes (most_owned version) st.first (length st.blocks) mid.free (changed (owned_count version st.blocks) s (suc n)) (owned_at version st.blocks) so_far.owning so_far.flags s n below count)
          (λ t below_t. sym (changed-changed (owned_count version st.blocks) s (suc n) n t))
          (λ t i below_t in_range. refl);
    }

-- a truncation keeps the front of the contents
pub ready_reduced : (version : Version) (st mid : BlockStore) (inodes s v : ℕ) → IsSound version st inodes → s < inodes → 0 < kind_at version st.blocks s → v ≤ size_at version st.blocks s → Reduced version st mid inodes s (wanted v) → Ready version st mid inodes s v (resize (content_at version st.blocks s) v)
ready_reduced version st mid inodes s v sound below used shorter reduced =
    let size_is = long_is version st inodes s sound below used in
    let shorter_content : v ≤ length (content_at version st.blocks s) = omega arith in
    record {
      shape = record {
        first = reduced.first ∙ sound.shape.first;
        first_within = rw (reduced.first, reduced.blocks) sound.shape.first_within;
        flags = rw reduced.blocks reduced.flags;
        whole = rw reduced.blocks sound.shape.whole;
        free_from = rw reduced.first reduced.free_from;
      };
      first = reduced.first;
      total = ap length reduced.blocks;
      owning = rw (reduced.first, reduced.blocks) reduced.owning;
      kinds = λ t below_t. rw reduced.blocks refl;
      sizes = λ t below_t. rw reduced.blocks refl;
      owned = λ t i below_t differs in_range. rw reduced.blocks refl;
      blocks = λ t i below_t differs in_range content. rw reduced.blocks refl;
      long = length-resize_shorter (content_at version st.blocks s) v shorter_content;
      bytes = λ x in_range. rw reduced.blocks (sym (get_or-resize_shorter (content_at version st.blocks s) v shorter_content x in_range ∙ get_or-content_at version st.blocks s x (omega arith)));
    }

-- the last remaining block can be freed
pub record MayGiveBack (version : Version) (st mid : BlockStore) (s n : ℕ) : Type 0 where
  pub from : mid.first ≤ owned_at version st.blocks s n
  pub taken : IsTaken mid (owned_at version st.blocks s n)

pub may_give_back : (version : Version) (st mid : BlockStore) (inodes s n : ℕ) → s < inodes → Reduced version st mid inodes s (suc n) → MayGiveBack version st mid s n
may_give_back version st mid inodes s n below so_far =
    let count = changed-same (owned_count version st.blocks) s (suc n) in
    let range : n < changed (owned_count version st.blocks) s (suc n) s = omega (arith, count) in
    let within = so_far.owning.within s n below range in
    record {
      from = rw so_far.first (so_far.owning.from s n below range);
      taken = slice_get-get_or mid.free (owned_at version st.blocks s n) true (omega (arith, so_far.flags)) ∙ ap Some (so_far.owning.taken s n below range);
    }

-- at most the blocks that the inode owned remain
pub reduced-index : (version : Version) (st mid : BlockStore) (inodes s n i : ℕ) → s < inodes → Reduced version st mid inodes s n → i < n → pointer_at version mid.blocks s (pointer_of i) < length mid.blocks
reduced-index version st mid inodes s n i below so_far in_range =
    let count = changed-same (owned_count version st.blocks) s n in
    let within = so_far.owning.within s (index_of i) below (omega (arith, count)) in
    rw (so_far.blocks, index-is version st.blocks s i) within
