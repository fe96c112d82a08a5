-- The results of the methods that only read.
use Rattle.std.proofs.Common.{◌≡◌, ℕ, suc, ◌+◌, ◌-◌, ◌/◌, ◌%◌, ◌<◌, ◌≤◌, ◌≢◌, List, ◌++◌, length, get_or, take, drop, None, is_some, refl, sym, ap, ◌∙◌, inl, inr, arith}
use Rattle.std.proofs.lemmas.Bool.{cases_eq, false≢true}
use Rattle.std.proofs.lemmas.List.{get_or-take, get_or-drop, length-take-le, length-drop, take_at, drop_at, drop-drop, append_assoc}
use Rattle.std.proofs.Math.Seq.{take-add}
use borrow.Rule.Slice.PartMut.{put_mid}
use Rattle.std.proofs.lemmas.List.FromFn.{length-map-range_with_len}
use Rattle.pv_model.specs.declared.version.Version.{Version}
use Rattle.pv_model.specs.Machine.{Bytes, resize, Numbered, least_free, greatest_length}
use Rattle.pv_blocks.specs.BlockStore.{BlockStore, free_count}
use Rattle.pv_inodes.specs.Files.{Contained, Files, IsUsed, inode_bytes_at, total_room, HasRoomForFiles, LacksRoomForFiles, truncated_files, new_inode}
use Rattle.pv_inodes.specs.Layout.{block_at, kind_at, owned_at, wanted, position_of_block, content_byte, contained_at, nodes_in}
use Rattle.pv_inodes.specs.Sound.{IsSound, files_of}
use Rattle.pv_inodes.proofs.ChangedInode.{nodes-files_of, held-used}
use Rattle.pv_inodes.proofs.ByteLists.{same_bytes, length-resize}
use Rattle.pv_inodes.proofs.InodeContents.{get_or-content_at, contained_at-free, contained_at-used, at_number-nodes_in, length-nodes_in}
use Rattle.pv_inodes.proofs.EditedFiles.{total_room-in_version, blocks-files_with_bytes}
use Rattle.pv_inodes.proofs.UsedInodes.{InUse, free_left, place_in_use}
use Rattle.pv_inodes.proofs.InodeLayouts.{need-wanted}
use Rattle.pv_inodes.proofs.NumberMaps.{least_free_is, least_free_none}

-- an inode with a nonzero kind field is in use
pub used_from : (version : Version) (st : BlockStore) (inodes s : ℕ) → s < inodes → kind_at version st.blocks s ≢ 0 → IsUsed (files_of version st inodes) (suc s)
used_from version st inodes s below some = ap is_some (held-used version st inodes s below (omega arith))

-- a part of the contents, from its block
module _ (version : Version) (st : BlockStore) (inodes : ℕ) (f : Files) (n s k start count : ℕ) (sound : IsSound version st inodes) (known : InUse version st inodes f n s) (owned : k ≡ owned_at version st.blocks s (position_of_block (start / 512))) (some : 0 < count) (fits : start % 512 + count ≤ 512) (within : start + count ≤ length (inode_bytes_at f n)) where
  block_whole : length (block_at st.blocks k) ≡ 512
  block_whole =
      let range = place_in_use version st inodes f n s known start (omega arith) in
      rw owned (sound.shape.whole (owned_at version st.blocks s (position_of_block (start / 512))) (known.owned_within (position_of_block (start / 512)) range))

  byte_read : (i : ℕ) → i < count → get_or (inode_bytes_at f n) (start + i) 0 ≡ get_or (block_at st.blocks k) (start % 512 + i) 0
  unfolding content_byte
  byte_read i below =
      let block : (start + i) / 512 ≡ start / 512 = omega arith in
      let place : (start + i) % 512 ≡ start % 512 + i = omega arith in
      ap (λ (xs : Bytes). get_or xs (start + i) 0) (sym known.content)
      ∙ get_or-content_at version st.blocks s (start + i) (omega (arith, known.size))
      ∙ rw (block, place, ← owned) refl

  pub part_read : take count (drop (start % 512) (block_at st.blocks k)) ≡ take count (drop start (inode_bytes_at f n))
  part_read =
      let length_block = block_whole in
      let length_left : length (take count (drop (start % 512) (block_at st.blocks k))) ≡ count = length-take-le count (drop (start % 512) (block_at st.blocks k)) (omega (arith, length-drop (start % 512) (block_at st.blocks k))) in
      let length_right : length (take count (drop start (inode_bytes_at f n))) ≡ count = length-take-le count (drop start (inode_bytes_at f n)) (omega (arith, length-drop start (inode_bytes_at f n))) in
      same_bytes (take count (drop (start % 512) (block_at st.blocks k))) (take count (drop start (inode_bytes_at f n))) (omega arith) (λ i below.
      let less : i < count = rw length_left at below in
      get_or-take count (drop (start % 512) (block_at st.blocks k)) i 0 less
      ∙ get_or-drop (start % 512) (block_at st.blocks k) i 0
      ∙ sym (get_or-take count (drop start (inode_bytes_at f n)) i 0 less ∙ get_or-drop start (inode_bytes_at f n) i 0 ∙ byte_read i less))

-- the result of the test for room
module _ (version : Version) (st : BlockStore) (inodes : ℕ) (f : Files) (n s size : ℕ) (sound : IsSound version st inodes) (view : files_of version st inodes ≡ f) (used : IsUsed f n) (known : InUse version st inodes f n s) (allowed : size ≤ greatest_length version) where
  room_after : total_room (truncated_files f n size) + wanted (length (inode_bytes_at f n)) ≡ total_room f + wanted size
  room_after =
      let change = rw (length-resize (inode_bytes_at f n) size) at (total_room-in_version f n (resize (inode_bytes_at f n) size) version used known.same_version) in
      let old = need-wanted version (length (inode_bytes_at f n)) (rw known.size at known.allowed) in
      omega (arith, change, old, need-wanted version size allowed)

  pub has_room_if : wanted size - wanted (length (inode_bytes_at f n)) ≤ free_count st → HasRoomForFiles (truncated_files f n size)
  has_room_if enough =
      omega (arith, room_after, free_left version st inodes f sound view, blocks-files_with_bytes f n (resize (inode_bytes_at f n) size) used)

  pub lacks_room_if : free_count st < wanted size - wanted (length (inode_bytes_at f n)) → LacksRoomForFiles (truncated_files f n size)
  lacks_room_if wanting =
      omega (arith, room_after, free_left version st inodes f sound view, blocks-files_with_bytes f n (resize (inode_bytes_at f n) size) used)

-- the number of a new inode
pub node_none : (version : Version) (bs : List Bytes) (s : ℕ) → contained_at version bs s ≡ None → kind_at version bs s ≡ 0
node_none version bs s none = elim (cases_eq (kind_at version bs s) 0) [
  | inl free ↦ free
  | inr used ↦ absurd (false≢true (ap is_some (sym none ∙ contained_at-used version bs s (omega arith))))
]

pub new_inode-found : (version : Version) (st : BlockStore) (inodes s : ℕ) → s < inodes → kind_at version st.blocks s ≡ 0 → ((t : ℕ) → t < s → kind_at version st.blocks t ≢ 0) → new_inode (files_of version st inodes) ≡ suc s
unfolding nodes_in
new_inode-found version st inodes s below free used =
    ap (λ (nodes : Numbered Contained). suc (least_free (drop 1 nodes))) (nodes-files_of version st inodes)
    ∙ ap suc (least_free_is (drop 1 (nodes_in version st.blocks inodes)) s (rw (length-map-range_with_len (contained_at version st.blocks) 0 inodes) below) (at_number-nodes_in version st.blocks inodes s below ∙ contained_at-free version st.blocks s free)
    (λ t less none. used t less (node_none version st.blocks t (sym (at_number-nodes_in version st.blocks inodes t (omega arith)) ∙ none))))

pub new_inode-none : (version : Version) (st : BlockStore) (inodes : ℕ) → ((t : ℕ) → t < inodes → kind_at version st.blocks t ≢ 0) → new_inode (files_of version st inodes) ≡ length (files_of version st inodes).nodes
unfolding nodes_in
new_inode-none version st inodes used =
    let long = length-map-range_with_len (contained_at version st.blocks) 0 inodes in
    ap (λ (nodes : Numbered Contained). suc (least_free (drop 1 nodes))) (nodes-files_of version st inodes)
    ∙ ap suc (least_free_none (drop 1 (nodes_in version st.blocks inodes)) (λ t less none. used t (rw long at less) (node_none version st.blocks t (sym (at_number-nodes_in version st.blocks inodes t (rw long at less)) ∙ none))))
    ∙ sym (ap (λ (nodes : Numbered Contained). length nodes) (nodes-files_of version st inodes))

pub length-files_of : (version : Version) (st : BlockStore) (inodes : ℕ) → length (files_of version st inodes).nodes ≡ suc inodes
length-files_of version st inodes = ap (λ (nodes : Numbered Contained). length nodes) (nodes-files_of version st inodes) ∙ length-nodes_in version st.blocks inodes

-- one more part of the buffer is read
pub read_more : (bytes old : Bytes) (at m n : ℕ) → m + n ≤ length old → at + m + n ≤ length bytes → put_mid m n (take m (drop at bytes) ++ drop m old) (take n (drop (at + m) bytes)) ≡ take (m + n) (drop at bytes) ++ drop (m + n) old
read_more bytes old at m n within fits =
    let length_front : length (take m (drop at bytes)) ≡ m = length-take-le m (drop at bytes) (omega (arith, length-drop at bytes)) in
    let front = take_at (take m (drop at bytes)) (drop m old) m length_front in
    let rest = drop_at (take m (drop at bytes)) (drop m old) m length_front in
    rw (front, rest) (
    ap (λ (xs : Bytes). take m (drop at bytes) ++ (take n (drop (at + m) bytes) ++ xs)) (drop-drop n m old)
    ∙ ap (λ (xs : Bytes). take m (drop at bytes) ++ (take n xs ++ drop (m + n) old)) (sym (drop-drop m at bytes))
    ∙ sym (append_assoc (take m (drop at bytes)) (take n (drop m (drop at bytes))) (drop (m + n) old))
    ∙ ap (λ (xs : Bytes). xs ++ drop (m + n) old) (sym (take-add m n (drop at bytes))))
