-- An inode in use, and the room that remains.
use Rattle.std.proofs.Common.{◌≡◌, ℕ, suc, ◌+◌, ◌-◌, ◌/◌, ◌%◌, ◌<◌, ◌≤◌, ◌≢◌, length, Option, Some, option_map, sym, ap, subst, ◌∙◌, arith}
use Rattle.pv_model.specs.Machine.{greatest_length}
use Rattle.pv_model.specs.declared.version.Version.{Version}
use Rattle.pv_blocks.specs.BlockStore.{BlockStore, free_count}
use Rattle.pv_inodes.specs.Files.{Contained, Files, kind_of_number, IsUsed, inode_bytes_at, sort_at, total_room}
use Rattle.pv_inodes.specs.Layout.{home, kind_at, size_at, pointer_at, owned_at, owned_count, content_at, most_owned, after_index, pointer_of, wanted, position_of_block}
use Rattle.pv_inodes.specs.Owning.{sum_over, count_set}
use Rattle.pv_inodes.specs.Sound.{IsSound, files_of}
use Rattle.pv_inodes.proofs.ChangedInode.{used_slot, held-used, inode_bytes_at-files_of, total_room-files_of, blocks-files_of, version-files_of}
use Rattle.pv_inodes.proofs.InodeContents.{length-content_at, owned_count-used, position_of_block-needed}
use Rattle.pv_inodes.proofs.InodeFields.{index-is}
use Rattle.pv_inodes.proofs.InodeLayouts.{home-below, index_of}

-- inode n is in use, and has slot s
pub record InUse (version : Version) (st : BlockStore) (inodes : ℕ) (f : Files) (n s : ℕ) : Type 0 where
  pub number : n ≡ suc s
  pub below : s < inodes
  pub used : 0 < kind_at version st.blocks s
  pub home_first : home version s < st.first
  pub home_within : home version s < length st.blocks
  pub content : content_at version st.blocks s ≡ inode_bytes_at f n
  pub size : size_at version st.blocks s ≡ length (inode_bytes_at f n)
  pub allowed : size_at version st.blocks s ≤ greatest_length version
  pub count : owned_count version st.blocks s ≡ wanted (size_at version st.blocks s)
  pub few : owned_count version st.blocks s ≤ most_owned version
  pub owned_within : (i : ℕ) → i < owned_count version st.blocks s → owned_at version st.blocks s i < length st.blocks
  pub index_within : (i : ℕ) → i < owned_count version st.blocks s → pointer_at version st.blocks s (pointer_of i) < length st.blocks
  pub next_within : (i : ℕ) → i ≡ owned_count version st.blocks s → after_index i ≢ 0 → pointer_at version st.blocks s (pointer_of i) < length st.blocks
  pub files : f ≡ files_of version st inodes
  pub same_version : f.version ≡ version

pub in_use : (version : Version) (st : BlockStore) (inodes : ℕ) (f : Files) (n s : ℕ) → IsSound version st inodes → files_of version st inodes ≡ f → IsUsed f n → s + 1 ≡ n → InUse version st inodes f n s
in_use version st inodes f n s sound view is_used slot =
    let found = used_slot version st inodes n (subst (λ (g : Files). IsUsed g n) (sym view) is_used) in
    let same : n - 1 ≡ s = omega arith in
    let number : n ≡ suc s = omega arith in
    let below : s < inodes = omega (arith, found.below) in
    let used : 0 < kind_at version st.blocks s = rw same at found.used in
    let content : content_at version st.blocks s ≡ inode_bytes_at f n = sym (inode_bytes_at-files_of version st inodes s below used) ∙ ap (λ m. inode_bytes_at (files_of version st inodes) m) (sym number) ∙ ap (λ (g : Files). inode_bytes_at g n) view in
    let first : home version s < st.first = omega (arith, home-below version inodes s below, sound.shape.first) in
    let allowed = sound.sizes s below used in
    let count = owned_count-used version st.blocks s used in
    record {
      number = number;
      below = below;
      used = used;
      home_first = first;
      home_within = omega (arith, sound.shape.first_within);
      content = content;
      size = sym (length-content_at version st.blocks s) ∙ ap length content;
      allowed = allowed;
      count = count;
      few = sound.owning.few s below;
      owned_within = λ i in_range. sound.owning.within s i below in_range;
      index_within = λ i in_range. rw (index-is version st.blocks s i) (sound.owning.within s (index_of i) below (omega arith));
      next_within = λ i is following. rw (index-is version st.blocks s i) (sound.owning.within s (index_of i) below (omega arith));
      files = sym view;
      same_version = ap (λ (g : Files). g.version) (sym view) ∙ version-files_of version st inodes;
    }

-- the free blocks are the data blocks that no contents need
pub free_left : (version : Version) (st : BlockStore) (inodes : ℕ) (f : Files) → IsSound version st inodes → files_of version st inodes ≡ f → free_count st + total_room f ≡ f.blocks
unfolding count_set
free_left version st inodes f sound view =
    let counted = sound.owning.counted in
    let room : total_room f ≡ sum_over inodes (owned_count version st.blocks) = ap total_room (sym view) ∙ total_room-files_of version st inodes sound in
    let blocks : f.blocks ≡ length st.blocks - st.first = ap (λ (g : Files). g.blocks) (sym view) ∙ blocks-files_of version st inodes in
    omega (arith, counted, room, blocks, sound.shape.first_within)

pub sort_in_use : (version : Version) (st : BlockStore) (inodes : ℕ) (f : Files) (n s : ℕ) → InUse version st inodes f n s → sort_at f n ≡ Some (kind_of_number (kind_at version st.blocks s))
sort_in_use version st inodes f n s known =
    ap (λ (g : Files). sort_at g n) known.files
    ∙ ap (λ m. sort_at (files_of version st inodes) m) known.number
    ∙ ap (λ (o : Option Contained). option_map (λ c. c.sort) o) (held-used version st inodes s known.below known.used)

-- a byte of the contents is in a block that the inode owns
pub place_in_use : (version : Version) (st : BlockStore) (inodes : ℕ) (f : Files) (n s : ℕ) → InUse version st inodes f n s → (x : ℕ) → x < length (inode_bytes_at f n) → position_of_block (x / 512) < owned_count version st.blocks s
place_in_use version st inodes f n s known x within =
    let in_size : x < size_at version st.blocks s = omega (arith, known.size) in
    rw known.count (position_of_block-needed (size_at version st.blocks s) x in_size)

-- the end of contents that do not fill their last block is in such a block too
pub end_in_use : (version : Version) (st : BlockStore) (inodes : ℕ) (f : Files) (n s : ℕ) → InUse version st inodes f n s → 0 < size_at version st.blocks s % 512 → position_of_block (size_at version st.blocks s / 512) < owned_count version st.blocks s
end_in_use version st inodes f n s known partly =
    let last : (size_at version st.blocks s - 1) / 512 ≡ size_at version st.blocks s / 512 = omega arith in
    rw last at (place_in_use version st inodes f n s known (size_at version st.blocks s - 1) (omega (arith, known.size)))
