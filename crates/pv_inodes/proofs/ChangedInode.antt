-- One inode gets other contents, and the others do not change.
use Rattle.std.proofs.Common.{◌≡◌, ℕ, zero, suc, ◌-◌, ◌/◌, ◌^◌, ◌<◌, ◌≤◌, ◌≢◌, List, length, get_or, set, Option, Some, is_some, refl, sym, ap, ◌∙◌, inl, inr, arith}
use Rattle.std.proofs.lemmas.Bool.{cases_eq, cases_lt, false≢true}
use Rattle.pv_model.specs.declared.version.Version.{Version}
use Rattle.pv_model.specs.Machine.{Bytes, Numbered, at_number, with_number, greatest_length}
use Rattle.pv_blocks.specs.BlockStore.{BlockStore}
use Rattle.pv_inodes.specs.Files.{Contained, kind_of_number, held, IsUsed, contained_bytes, inode_bytes_at, total_room, with_contents_replaced, files_with_bytes}
use Rattle.pv_inodes.specs.Layout.{block_at, home, kind_at, size_at, pointer_at, owned_at, owned_count, pointer_count, pointer_of, most_owned, wanted, position_of_block, content_byte, content_at, contained_at, nodes_in, with_size}
use Rattle.pv_inodes.specs.Owning.{sum_over, changed, IsOwning}
use Rattle.pv_inodes.specs.Sound.{IsShapedStore, IsSound, files_of, resized_store}
use Rattle.pv_inodes.proofs.InodeContents.{SameNode, contained_at-same, contained_at-used, contained_at-free, content_at-is, content_byte-same, nodes_in-set, at_number-nodes_in, at_number-nodes_in_zero, length-nodes_in, owned_count-used, owned_count-same, position_of_block-needed, room-nodes_in}
use Rattle.pv_inodes.proofs.EditedFiles.{some_is}
use Rattle.pv_inodes.proofs.InodeFields.{SameHead, owned_at-same, index-is, size_at-with_size, kind_at-with_size, pointer_at-with_size, head-with_size, block_at-with_size, length-with_size, length-block_with_size}
use Rattle.pv_inodes.proofs.InodeLayouts.{home-below, greatest_length-small, pointer_of-few, index_of, IsContent}
use Rattle.pv_inodes.proofs.NumberMaps.{at_number-within, with_number-set}
use Rattle.pv_inodes.proofs.BlockOwners.{changed-same, changed-other, owning-same}

pub nodes-files_of : (version : Version) (st : BlockStore) (inodes : ℕ) → (files_of version st inodes).nodes ≡ nodes_in version st.blocks inodes
unfolding files_of
nodes-files_of version st inodes = refl

pub blocks-files_of : (version : Version) (st : BlockStore) (inodes : ℕ) → (files_of version st inodes).blocks ≡ length st.blocks - st.first
unfolding files_of
blocks-files_of version st inodes = refl

pub version-files_of : (version : Version) (st : BlockStore) (inodes : ℕ) → (files_of version st inodes).version ≡ version
unfolding files_of
version-files_of version st inodes = refl

pub held-files_of : (version : Version) (st : BlockStore) (inodes s : ℕ) → s < inodes → held (files_of version st inodes) (suc s) ≡ contained_at version st.blocks s
held-files_of version st inodes s below = ap (λ (nodes : Numbered Contained). at_number nodes (suc s)) (nodes-files_of version st inodes) ∙ at_number-nodes_in version st.blocks inodes s below

-- an inode that is in use is within the inode table
pub record UsedSlot (version : Version) (st : BlockStore) (inodes n : ℕ) : Type 0 where
  pub above : 1 ≤ n
  pub slot : n ≡ suc (n - 1)
  pub below : n - 1 < inodes
  pub used : 0 < kind_at version st.blocks (n - 1)

pub used_slot : (version : Version) (st : BlockStore) (inodes n : ℕ) → IsUsed (files_of version st inodes) n → UsedSlot version st inodes n
used_slot version st inodes zero used =
    absurd (false≢true (rw (nodes-files_of version st inodes, at_number-nodes_in_zero version st.blocks inodes) at used))
used_slot version st inodes (suc s) used =
    let found = some_is (held (files_of version st inodes) (suc s)) used in
    let within = at_number-within (files_of version st inodes).nodes (suc s) found.0 found.1 in
    let long : length (files_of version st inodes).nodes ≡ suc inodes = ap length (nodes-files_of version st inodes) ∙ length-nodes_in version st.blocks inodes in
    let below : s < inodes = omega arith in
    let same : suc s - 1 ≡ s = omega arith in
    record {
      above = omega arith;
      slot = omega arith;
      below = omega arith;
      used = rw same (elim (cases_lt 0 (kind_at version st.blocks s)) [
        | inl positive ↦ positive
        | inr none ↦
            let free : kind_at version st.blocks s ≡ 0 = omega arith in
            absurd (false≢true (ap is_some (sym (contained_at-free version st.blocks s free) ∙ sym (held-files_of version st inodes s below)) ∙ used))
      ]);
    }

pub held-used : (version : Version) (st : BlockStore) (inodes s : ℕ) → s < inodes → 0 < kind_at version st.blocks s → held (files_of version st inodes) (suc s) ≡ Some (record { sort = kind_of_number (kind_at version st.blocks s); bytes = content_at version st.blocks s })
held-used version st inodes s below used = held-files_of version st inodes s below ∙ contained_at-used version st.blocks s used

pub inode_bytes_at-files_of : (version : Version) (st : BlockStore) (inodes s : ℕ) → s < inodes → 0 < kind_at version st.blocks s → inode_bytes_at (files_of version st inodes) (suc s) ≡ content_at version st.blocks s
inode_bytes_at-files_of version st inodes s below used = ap contained_bytes (held-used version st inodes s below used)

pub total_room-files_of : (version : Version) (st : BlockStore) (inodes : ℕ) → IsSound version st inodes → total_room (files_of version st inodes) ≡ sum_over inodes (owned_count version st.blocks)
unfolding files_of
total_room-files_of version st inodes sound = room-nodes_in version st.blocks inodes sound.sizes

-- inode s has other contents, and the others have the same
pub record Becomes (version : Version) (st after : BlockStore) (inodes s : ℕ) (xs : Bytes) : Type 0 where
  pub sound : IsSound version after inodes
  pub first : after.first ≡ st.first
  pub total : length after.blocks ≡ length st.blocks
  pub others : (t : ℕ) → t < inodes → t ≢ s → SameNode version st.blocks after.blocks t
  pub kind : kind_at version after.blocks s ≡ kind_at version st.blocks s
  pub size : size_at version after.blocks s ≡ length xs
  pub bytes : (x : ℕ) → x < length xs → content_byte version after.blocks s x ≡ get_or xs x 0

pub files_of-becomes : (version : Version) (st after : BlockStore) (inodes s : ℕ) (xs : Bytes) → s < inodes → 0 < kind_at version st.blocks s → Becomes version st after inodes s xs → files_of version after inodes ≡ files_with_bytes (files_of version st inodes) (suc s) xs
unfolding files_of
files_of-becomes version st after inodes s xs below used becomes =
    let used_after : 0 < kind_at version after.blocks s = omega (arith, becomes.kind) in
    let content : content_at version after.blocks s ≡ xs = content_at-is version after.blocks s xs (sym becomes.size) (λ x within. sym (becomes.bytes x (omega (arith, becomes.size)))) in
    let node : contained_at version after.blocks s ≡ Some (record { sort = kind_of_number (kind_at version st.blocks s); bytes = xs }) = contained_at-used version after.blocks s used_after ∙ rw (becomes.kind, content) refl in
    let long = length-nodes_in version st.blocks inodes in
    let nodes : nodes_in version after.blocks inodes ≡ with_number (nodes_in version st.blocks inodes) (suc s) (record { sort = kind_of_number (kind_at version st.blocks s); bytes = xs }) =
    nodes_in-set version st.blocks after.blocks inodes s below (λ t below_t differs. contained_at-same version st.blocks after.blocks t (becomes.others t below_t differs))
    ∙ ap (set (nodes_in version st.blocks inodes) (suc s)) node
    ∙ sym (with_number-set (nodes_in version st.blocks inodes) (suc s) (record { sort = kind_of_number (kind_at version st.blocks s); bytes = xs }) (omega arith)) in
    rw (nodes, becomes.first, becomes.total) (sym (ap (λ (o : Option Contained). with_contents_replaced (record { version = version; nodes = nodes_in version st.blocks inodes; blocks = length st.blocks - st.first }) (suc s) o xs) (held-used version st inodes s below used)))

-- a store in which inode s owns the blocks, and has the bytes, for another length
pub record Ready (version : Version) (st mid : BlockStore) (inodes s size : ℕ) (xs : Bytes) : Type 0 where
  pub shape : IsShapedStore version mid inodes
  pub first : mid.first ≡ st.first
  pub total : length mid.blocks ≡ length st.blocks
  pub owning : IsOwning inodes (most_owned version) mid.first (length mid.blocks) mid.free (changed (owned_count version st.blocks) s (wanted size)) (owned_at version mid.blocks)
  pub kinds : (t : ℕ) → t < inodes → kind_at version mid.blocks t ≡ kind_at version st.blocks t
  pub sizes : (t : ℕ) → t < inodes → size_at version mid.blocks t ≡ size_at version st.blocks t
  pub owned : (t i : ℕ) → t < inodes → t ≢ s → i < owned_count version st.blocks t → owned_at version mid.blocks t i ≡ owned_at version st.blocks t i
  pub blocks : (t i : ℕ) → t < inodes → t ≢ s → i < owned_count version st.blocks t → IsContent i → block_at mid.blocks (owned_at version st.blocks t i) ≡ block_at st.blocks (owned_at version st.blocks t i)
  pub long : length xs ≡ size
  pub bytes : (x : ℕ) → x < size → content_byte version mid.blocks s x ≡ get_or xs x 0

module _ (version : Version) (st mid : BlockStore) (inodes s size : ℕ) (xs : Bytes) (below : s < inodes) (used : 0 < kind_at version st.blocks s) (sound : IsSound version st inodes) (allowed : size ≤ greatest_length version) (ready : Ready version st mid inodes s size xs) where
  abbrev after : List Bytes
  after = with_size version mid.blocks s size

  home-first : (t : ℕ) → t < inodes → home version t < mid.first
  home-first t below_t = omega (arith, home-below version inodes t below_t, ready.shape.first)

  home_within : home version s < length mid.blocks
  home_within = omega (arith, home-first s below, ready.shape.first_within)

  home_whole : length (block_at mid.blocks (home version s)) ≡ 512
  home_whole = ready.shape.whole (home version s) home_within

  small : size < 2 ^ 32
  small = omega (arith, greatest_length-small version)

  head : (t : ℕ) → t ≢ s → SameHead version mid.blocks (with_size version mid.blocks s size) t
  head t differs = head-with_size version mid.blocks s size home_within home_whole small t differs

  kind_here : kind_at version (with_size version mid.blocks s size) s ≡ kind_at version mid.blocks s
  kind_here = kind_at-with_size version mid.blocks s size home_within home_whole small

  size_here : size_at version (with_size version mid.blocks s size) s ≡ size
  size_here = size_at-with_size version mid.blocks s size home_within home_whole small

  -- data blocks do not change
  data_stays : (y : ℕ) → mid.first ≤ y → block_at (with_size version mid.blocks s size) y ≡ block_at mid.blocks y
  data_stays y from =
      let at_home = home-first s below in
      block_at-with_size version mid.blocks s size home_within home_whole small y (λ e. omega arith)

  pointer_stays : (t p : ℕ) → p < pointer_count version → pointer_at version (with_size version mid.blocks s size) t p ≡ pointer_at version mid.blocks t p
  pointer_stays t p within = elim (cases_eq t s) [
    | inl same ↦ rw same (pointer_at-with_size version mid.blocks s size home_within home_whole small p)
    | inr differs ↦ (head t differs).direct p within
  ]

  abbrev count : ℕ → ℕ
  count = changed (owned_count version st.blocks) s (wanted size)

  owned_stays : (t i : ℕ) → t < inodes → i < changed (owned_count version st.blocks) s (wanted size) t → owned_at version (with_size version mid.blocks s size) t i ≡ owned_at version mid.blocks t i
  owned_stays t i below_t in_range = owned_at-same version mid.blocks (with_size version mid.blocks s size) t i
      (pointer_stays t (pointer_of i) (pointer_of-few version i (omega (arith, ready.owning.few t below_t))))
      (λ following. data_stays (pointer_at version mid.blocks t (pointer_of i)) (rw (index-is version mid.blocks t i) (ready.owning.from t (index_of i) below_t (omega arith))))

  kinds_after : (t : ℕ) → t < inodes → kind_at version (with_size version mid.blocks s size) t ≡ kind_at version st.blocks t
  kinds_after t below_t = elim (cases_eq t s) [
    | inl same ↦ rw same (kind_here ∙ ready.kinds s below)
    | inr differs ↦ (head t differs).kind ∙ ready.kinds t below_t
  ]

  sizes_after : (t : ℕ) → t < inodes → t ≢ s → size_at version (with_size version mid.blocks s size) t ≡ size_at version st.blocks t
  sizes_after t below_t differs = (head t differs).size ∙ ready.sizes t below_t

  counts_after : (t : ℕ) → t < inodes → owned_count version (with_size version mid.blocks s size) t ≡ changed (owned_count version st.blocks) s (wanted size) t
  counts_after t below_t = elim (cases_eq t s) [
    | inl same ↦
        let used_after : 0 < kind_at version (with_size version mid.blocks s size) s = omega (arith, kinds_after s below) in
        rw same (owned_count-used version (with_size version mid.blocks s size) s used_after ∙ ap wanted size_here ∙ sym (changed-same (owned_count version st.blocks) s (wanted size)))
    | inr differs ↦
        owned_count-same version st.blocks (with_size version mid.blocks s size) t (kinds_after t below_t) (sizes_after t below_t differs)
        ∙ sym (changed-other (owned_count version st.blocks) s (wanted size) t differs)
  ]

  long_after : length (with_size version mid.blocks s size) ≡ length mid.blocks
  long_after = length-with_size version mid.blocks s size home_within home_whole small

  others_after : (t : ℕ) → t < inodes → t ≢ s → SameNode version st.blocks (with_size version mid.blocks s size) t
  others_after t below_t differs = record {
    kind = kinds_after t below_t;
    size = sizes_after t below_t differs;
    owned = λ i in_range. owned_stays t i below_t (rw (changed-other (owned_count version st.blocks) s (wanted size) t differs) in_range) ∙ ready.owned t i below_t differs in_range;
    blocks = λ i in_range content.
        let from : mid.first ≤ owned_at version st.blocks t i = omega (arith, sound.owning.from t i below_t in_range, ready.first) in
        data_stays (owned_at version st.blocks t i) from ∙ ready.blocks t i below_t differs in_range content;
  }

  pub becomes-resized_store : Becomes version st (resized_store version mid s size) inodes s xs
  unfolding resized_store
  becomes-resized_store = record {
    sound = record {
      shape = record {
        first = ready.shape.first;
        first_within = omega (arith, ready.shape.first_within, long_after);
        flags = ready.shape.flags ∙ sym long_after;
        whole = λ y within. elim (cases_eq y (home version s)) [
          | inl same ↦ rw same (length-block_with_size version mid.blocks s size home_within home_whole small)
          | inr differs ↦ ap length (block_at-with_size version mid.blocks s size home_within home_whole small y differs) ∙ ready.shape.whole y (omega (arith, long_after))
        ];
        free_from = ready.shape.free_from;
      };
      kinds = λ t below_t. rw (kinds_after t below_t) (sound.kinds t below_t);
      sizes = λ t below_t used_t. elim (cases_eq t s) [
        | inl same ↦ rw (same, size_here) allowed
        | inr differs ↦ rw (sizes_after t below_t differs) (sound.sizes t below_t (rw (kinds_after t below_t) at used_t))
      ];
      owning = rw long_after (owning-same inodes (most_owned version) mid.first (length mid.blocks) mid.free (changed (owned_count version st.blocks) s (wanted size)) (owned_count version (with_size version mid.blocks s size)) (owned_at version mid.blocks) (owned_at version (with_size version mid.blocks s size)) ready.owning counts_after owned_stays);
    };
    first = ready.first;
    total = long_after ∙ ready.total;
    others = others_after;
    kind = kinds_after s below;
    size = size_here ∙ sym ready.long;
    bytes = λ x within.
        let in_range : x < size = omega (arith, ready.long) in
        let place : position_of_block (x / 512) < changed (owned_count version st.blocks) s (wanted size) s = rw (changed-same (owned_count version st.blocks) s (wanted size)) (position_of_block-needed size x in_range) in
        content_byte-same version mid.blocks (with_size version mid.blocks s size) s x (owned_stays s (position_of_block (x / 512)) below place) (data_stays (owned_at version mid.blocks s (position_of_block (x / 512))) (ready.owning.from s (position_of_block (x / 512)) below place))
        ∙ ready.bytes x in_range;
  }
