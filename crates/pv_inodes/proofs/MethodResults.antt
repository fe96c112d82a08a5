-- The result of the methods: a sound store, and the files with other contents of one inode.
use Rattle.std.proofs.Common.{◌≡◌, ℕ, suc, ◌+◌, ◌*◌, ◌-◌, ◌/◌, ◌%◌, ◌^◌, ◌<◌, ◌≤◌, ◌≢◌, true, false, length, get_or, set, replicate, refl, sym, ap, ◌∙◌, inl, inr, arith}
use Rattle.std.proofs.lemmas.Bool.{cases_lt}
use Rattle.std.proofs.lemmas.List.{get_or-replicate, get_or_past, length-replicate, length-set}
use Rattle.std.proofs.lemmas.Option.{get_or_from_slice_get, slice_get_within}
use Rattle.pv_model.specs.declared.version.Version.{Version}
use Rattle.pv_blocks.proofs.BlockStores.{count-cleared}
use Rattle.pv_inodes.proofs.InodeFields.{length-with_owned, index-is}
use Rattle.pv_inodes.proofs.BlockOwners.{changed-same}
use Rattle.pv_model.specs.Machine.{Bytes, overwrite, resize, greatest_length}
use Rattle.pv_blocks.specs.BlockStore.{BlockStore, IsFree, free_count}
use Rattle.pv_inodes.specs.Files.{Files, IsUsed, inode_bytes_at, HasRoomForFiles, files_with_bytes}
use Rattle.pv_inodes.specs.Layout.{splice, home, pointer_at, size_at, owned_at, owned_count, most_owned, after_index, pointer_of, wanted, position_of_block, content_at, with_size, zeros}
use Rattle.pv_inodes.specs.Sound.{IsSound, files_of, resized_store, patched, pushed}
use Rattle.pv_inodes.proofs.ChangedInode.{Becomes, files_of-becomes, Ready, becomes-resized_store}
use Rattle.pv_inodes.proofs.ContentGrowth.{ready_within, becomes_written, Extended, extended_once, extended_again, ready_extended, Reduced, ready_reduced}
use Rattle.pv_inodes.proofs.UsedInodes.{InUse, free_left}
use Rattle.pv_inodes.proofs.InodeLayouts.{index_of, need-wanted, wanted-is, wanted-most, position_of_block-is}
use Rattle.pv_inodes.proofs.EditedFiles.{blocks-files_with_bytes, total_room-in_version}

pub record Leaves (version : Version) (after : BlockStore) (inodes : ℕ) (f : Files) (n : ℕ) (xs : Bytes) : Type 0 where
  pub sound : IsSound version after inodes
  pub files : files_of version after inodes ≡ files_with_bytes f n xs

pub leaves : (version : Version) (st after : BlockStore) (inodes : ℕ) (f : Files) (n s : ℕ) (xs : Bytes) → InUse version st inodes f n s → Becomes version st after inodes s xs → Leaves version after inodes f n xs
leaves version st after inodes f n s xs known becomes = record {
  sound = becomes.sound;
  files = files_of-becomes version st after inodes s xs known.below known.used becomes ∙ rw (known.files, known.number) refl;
}

-- a length is written
pub leaves_resized : (version : Version) (st mid after : BlockStore) (inodes : ℕ) (f : Files) (n s v : ℕ) → IsSound version st inodes → InUse version st inodes f n s → v ≤ greatest_length version → Ready version st mid inodes s v (resize (content_at version st.blocks s) v) → after ≡ record mid { blocks = with_size version mid.blocks s v } → Leaves version after inodes f n (resize (inode_bytes_at f n) v)
unfolding resized_store
leaves_resized version st mid after inodes f n s v sound known allowed ready after_is =
    let becomes = becomes-resized_store version st mid inodes s v (resize (content_at version st.blocks s) v) known.below known.used sound allowed ready in
    rw (after_is, ← known.content) (leaves version st (resized_store version mid s v) inodes f n s (resize (content_at version st.blocks s) v) known becomes)

get_or-zeros : (n x : ℕ) → get_or (replicate {A = ℕ} n 0) x 0 ≡ 0
get_or-zeros n x = elim (cases_lt x n) [
  | inl within ↦ get_or-replicate {A = ℕ} n x 0 0 within
  | inr past ↦ get_or_past (replicate {A = ℕ} n 0) x 0 (omega (arith, length-replicate {A = ℕ} n 0))
]

-- zeros are written to the last block, and a length
pub leaves_within : (version : Version) (st mid after : BlockStore) (inodes : ℕ) (f : Files) (n s v k at : ℕ) → IsSound version st inodes → InUse version st inodes f n s → v ≤ greatest_length version → length (inode_bytes_at f n) < v → 0 < length (inode_bytes_at f n) % 512 → v ≤ 512 * (length (inode_bytes_at f n) / 512 + 1) → at ≡ size_at version st.blocks s % 512 → k ≡ owned_at version st.blocks s (position_of_block (size_at version st.blocks s / 512)) → mid ≡ record st { blocks = splice st.blocks k at (replicate (v - size_at version st.blocks s) 0) } → after ≡ record mid { blocks = with_size version mid.blocks s v } → Leaves version after inodes f n (resize (inode_bytes_at f n) v)
unfolding patched
leaves_within version st mid after inodes f n s v k at sound known allowed longer partly within at_is owned mid_is after_is =
    let size = known.size in
    let ready = ready_within version st inodes s sound known.below known.used k v at (replicate (v - size_at version st.blocks s) 0) (omega arith) (rw size within) (rw size partly) at_is owned (length-replicate {A = ℕ} (v - size_at version st.blocks s) 0) (get_or-zeros (v - size_at version st.blocks s)) in
    leaves_resized version st mid after inodes f n s v sound known allowed (rw mid_is ready) after_is

-- the remaining room is enough for contents that fit
pub room_enough : (version : Version) (st : BlockStore) (inodes : ℕ) (f : Files) (n s : ℕ) (xs : Bytes) → IsSound version st inodes → files_of version st inodes ≡ f → IsUsed f n → InUse version st inodes f n s → length xs ≤ greatest_length version → HasRoomForFiles (files_with_bytes f n xs) → wanted (length xs) ≤ wanted (length (inode_bytes_at f n)) + free_count st
room_enough version st inodes f n s xs sound view used known allowed room =
    let old = need-wanted version (length (inode_bytes_at f n)) (rw known.size at known.allowed) in
    let new = need-wanted version (length xs) allowed in
    omega (arith, free_left version st inodes f sound view, total_room-in_version f n xs version used known.same_version, blocks-files_with_bytes f n xs used, room, old, new)

-- the block that contents need after those that they fill
pub wanted_next : (n v : ℕ) → n % 512 ≡ 0 → n < v → v ≤ n + 512 → wanted v ≡ suc (position_of_block (n / 512))
wanted_next n v full longer within =
    let blocks : (v + 511) / 512 ≡ n / 512 + 1 = omega arith in
    omega (arith, wanted-is v, position_of_block-is (n / 512), blocks)

-- one block is allocated, and a length is written
pub leaves_by_block : (version : Version) (st mid after : BlockStore) (inodes : ℕ) (f : Files) (n s v i k : ℕ) → IsSound version st inodes → InUse version st inodes f n s → v ≤ greatest_length version → length (inode_bytes_at f n) < v → length (inode_bytes_at f n) % 512 ≡ 0 → v ≤ length (inode_bytes_at f n) + 512 → wanted (length (inode_bytes_at f n)) ≡ position_of_block (length (inode_bytes_at f n) / 512) → i ≡ wanted (length (inode_bytes_at f n)) → k < 2 ^ 16 → IsFree st k → mid ≡ pushed version st s i k → after ≡ record mid { blocks = with_size version mid.blocks s v } → Leaves version after inodes f n (resize (inode_bytes_at f n) v)
leaves_by_block version st mid after inodes f n s v i k sound known allowed longer full within next i_is small is_free mid_is after_is =
    let count : i ≡ owned_count version st.blocks s = i_is ∙ ap wanted (sym known.size) ∙ sym known.count in
    let more = wanted_next (length (inode_bytes_at f n)) v full longer within in
    let few : owned_count version st.blocks s < most_owned version = omega (arith, wanted-most version v allowed) in
    let extended = extended_once version st inodes s k sound known.below few small is_free in
    let last : owned_count version st.blocks s ≡ position_of_block (size_at version st.blocks s / 512) = sym count ∙ i_is ∙ next ∙ ap (λ m. position_of_block (m / 512)) (sym known.size) in
    let needs : wanted v ≡ suc (owned_count version st.blocks s) = omega arith in
    let ready = ready_extended version st (pushed version st s (owned_count version st.blocks s) k) inodes s v (owned_count version st.blocks s) sound known.below known.used extended (rw known.size full) (omega (arith, known.size)) (omega (arith, known.size)) last needs in
    leaves_resized version st mid after inodes f n s v sound known allowed (rw (mid_is, count) ready) after_is

-- an index block and then a block are allocated
pub leaves_by_index : (version : Version) (st first mid after : BlockStore) (inodes : ℕ) (f : Files) (n s v i k l : ℕ) → IsSound version st inodes → InUse version st inodes f n s → v ≤ greatest_length version → length (inode_bytes_at f n) < v → length (inode_bytes_at f n) % 512 ≡ 0 → v ≤ length (inode_bytes_at f n) + 512 → suc (wanted (length (inode_bytes_at f n))) ≡ position_of_block (length (inode_bytes_at f n) / 512) → i ≡ wanted (length (inode_bytes_at f n)) → k < 2 ^ 16 → IsFree st k → first ≡ pushed version st s i k → l < 2 ^ 16 → IsFree first l → mid ≡ pushed version first s (suc i) l → after ≡ record mid { blocks = with_size version mid.blocks s v } → Leaves version after inodes f n (resize (inode_bytes_at f n) v)
leaves_by_index version st first mid after inodes f n s v i k l sound known allowed longer full within next i_is small_k free_k first_is small_l free_l mid_is after_is =
    let count : i ≡ owned_count version st.blocks s = i_is ∙ ap wanted (sym known.size) ∙ sym known.count in
    let more = wanted_next (length (inode_bytes_at f n)) v full longer within in
    let few : suc (suc (owned_count version st.blocks s)) ≤ most_owned version = omega (arith, wanted-most version v allowed) in
    let once : Extended version st first inodes s i = rw (first_is, count) (extended_once version st inodes s k sound known.below (omega arith) small_k free_k) in
    let twice = extended_again version st first inodes s i l known.below (sym count) once (omega arith) small_l free_l in
    let last : suc i ≡ position_of_block (size_at version st.blocks s / 512) = ap suc i_is ∙ next ∙ ap (λ m. position_of_block (m / 512)) (sym known.size) in
    let needs : wanted v ≡ suc (suc i) = omega arith in
    let ready = ready_extended version st (pushed version first s (suc i) l) inodes s v (suc i) sound known.below known.used twice (rw known.size full) (omega (arith, known.size)) (omega (arith, known.size)) last needs in
    leaves_resized version st mid after inodes f n s v sound known allowed (rw mid_is ready) after_is

-- a part of the contents is overwritten
pub leaves_written : (version : Version) (st after : BlockStore) (inodes : ℕ) (f : Files) (n s k start : ℕ) (new : Bytes) → IsSound version st inodes → InUse version st inodes f n s → k ≡ owned_at version st.blocks s (position_of_block (start / 512)) → 0 < length new → start % 512 + length new ≤ 512 → start + length new ≤ length (inode_bytes_at f n) → after ≡ record st { blocks = splice st.blocks k (start % 512) new } → Leaves version after inodes f n (overwrite (inode_bytes_at f n) start new)
unfolding patched
leaves_written version st after inodes f n s k start new sound known owned some fits within after_is =
    let becomes = becomes_written version st inodes s sound known.below known.used k (start % 512) start new refl owned some fits (rw known.size within) in
    rw (after_is, ← known.content) (leaves version st (patched st k (start % 512) new) inodes f n s (overwrite (content_at version st.blocks s) start new) known becomes)

-- allocating a block does not change the number of blocks, and reduces the number of free ones by one
pub length-pushed : (version : Version) (st after : BlockStore) (s i k : ℕ) → after ≡ pushed version st s i k → length after.blocks ≡ length st.blocks
unfolding pushed
length-pushed version st after s i k is = ap (λ (b : BlockStore). length b.blocks) is ∙ length-with_owned version (set st.blocks k zeros) s i k ∙ length-set st.blocks k zeros

pub free_count-pushed : (version : Version) (st after : BlockStore) (s i k : ℕ) → IsFree st k → after ≡ pushed version st s i k → free_count after + 1 ≡ free_count st
unfolding pushed
free_count-pushed version st after s i k is_free is =
    let within = slice_get_within st.free k true is_free in
    let flag = get_or_from_slice_get st.free k true false is_free in
    ap (λ (b : BlockStore). free_count b + 1) is ∙ count-cleared st.free k within flag

-- the requirements of a push after an index block was allocated as the i-th
pub record TakesIndex (version : Version) (st first : BlockStore) (s i : ℕ) : Type 0 where
  pub home_first : home version s < first.first
  pub first_within : first.first ≤ length first.blocks
  pub flags : length first.free ≡ length first.blocks
  pub index_within : after_index (suc i) ≢ 0 → pointer_at version first.blocks s (pointer_of (suc i)) < length first.blocks
  pub total : length first.blocks ≡ length st.blocks

pub takes_index : (version : Version) (st first : BlockStore) (inodes : ℕ) (f : Files) (n s i k : ℕ) → IsSound version st inodes → InUse version st inodes f n s → i ≡ wanted (length (inode_bytes_at f n)) → i < most_owned version → k < 2 ^ 16 → IsFree st k → first ≡ pushed version st s i k → TakesIndex version st first s i
takes_index version st first inodes f n s i k sound known i_is room small is_free first_is =
    let count : i ≡ owned_count version st.blocks s = i_is ∙ ap wanted (sym known.size) ∙ sym known.count in
    let once : Extended version st first inodes s i = rw (first_is, count) (extended_once version st inodes s k sound known.below (rw count at room) small is_free) in
    let counted = changed-same (owned_count version st.blocks) s (suc i) in
    record {
      home_first = rw once.first known.home_first;
      first_within = once.shape.first_within;
      flags = once.shape.flags;
      index_within = λ following. rw (index-is version first.blocks s (suc i)) (once.owning.within s (index_of (suc i)) known.below (omega (arith, counted)));
      total = once.total;
    }

-- blocks are freed, and a length is written
pub leaves_reduced : (version : Version) (st mid after : BlockStore) (inodes : ℕ) (f : Files) (n s v : ℕ) → IsSound version st inodes → InUse version st inodes f n s → v ≤ length (inode_bytes_at f n) → Reduced version st mid inodes s (wanted v) → after ≡ record mid { blocks = with_size version mid.blocks s v } → Leaves version after inodes f n (resize (inode_bytes_at f n) v)
leaves_reduced version st mid after inodes f n s v sound known shorter reduced after_is =
    let ready = ready_reduced version st mid inodes s v sound known.below known.used (omega (arith, known.size)) reduced in
    leaves_resized version st mid after inodes f n s v sound known (omega (arith, known.size, known.allowed)) ready after_is
