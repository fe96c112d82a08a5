-- The sizes of each version, and the sequence of the blocks of an inode.
use Rattle.std.proofs.Common.{◌≡◌, ℕ, suc, ◌+◌, ◌*◌, ◌-◌, ◌/◌, ◌%◌, ◌^◌, ◌<◌, ◌≤◌, ◌≢◌, ◌⊎◌, refl, inl, inr, arith}
use Rattle.std.proofs.lemmas.Bool.{cases_lt, cases_order, le-leb, lt-leb}
use Rattle.pv_model.specs.Machine.{inode_length, inode_blocks, index_pointers, need, greatest_length}
use Rattle.pv_model.specs.declared.version.Version.{Version}
use Rattle.pv_model.specs.declared.version.Version.TheVariants.{V1, V2}
use Rattle.pv_inodes.specs.Layout.{home, offset, pointer_count, most_owned, after_index, pointer_of, wanted, position_of_block}
use Rattle.pv_inodes.specs.Sound.{first_data}

-- contents of the maximum length use all pointers
pub greatest_length-is : (version : Version) → greatest_length version ≡ 512 * (10 + 256 * index_pointers version)
greatest_length-is V1 = refl
greatest_length-is V2 = refl

-- a length fits in 4 bytes
pub greatest_length-small : (version : Version) → greatest_length version < 2 ^ 32
greatest_length-small V1 = omega arith
greatest_length-small V2 = omega arith

pub index_pointers-few : (version : Version) → index_pointers version ≤ 5
index_pointers-few V1 = omega arith
index_pointers-few V2 = omega arith

-- the pointers of an inode are within it
pub pointers-fit : (version : Version) → 8 + 2 * pointer_count version ≤ inode_length version
pointers-fit V1 = omega arith
pointers-fit V2 = omega arith

-- an inode is within its block
pub inode-fits : (version : Version) (s : ℕ) → offset version s + inode_length version ≤ 512
unfolding offset
inode-fits V1 s = omega arith
inode-fits V2 s = omega arith

-- and before the data blocks
pub home-below : (version : Version) (inodes s : ℕ) → s < inodes → home version s < first_data version inodes
unfolding home first_data
home-below V1 inodes s below = omega arith
home-below V2 inodes s below = omega arith

-- two inodes in one block do not overlap
pub offset-apart : (version : Version) (s t : ℕ) → s ≢ t → home version s ≡ home version t → (offset version s + inode_length version ≤ offset version t) ⊎ (offset version t + inode_length version ≤ offset version s)
unfolding home offset
offset-apart V1 s t differs same = elim (cases_order (s % 16) (t % 16)) [
  | inl equal ↦ absurd (differs (omega arith))
  | inr (inl below) ↦ inl (omega arith)
  | inr (inr above) ↦ inr (omega arith)
]
offset-apart V2 s t differs same = elim (cases_order (s % 8) (t % 8)) [
  | inl equal ↦ absurd (differs (omega arith))
  | inr (inl below) ↦ inl (omega arith)
  | inr (inr above) ↦ inr (omega arith)
]

-- the position of the index block of the i-th block
abbrev pub index_of : ℕ → ℕ
index_of i = i - after_index i

-- the pointers of an inode's blocks
pub pointer_of-few : (version : Version) (i : ℕ) → i < most_owned version → pointer_of i < pointer_count version
unfolding pointer_of
pointer_of-few version i within = omega arith

pub pointer_of-index : (i : ℕ) → pointer_of (index_of i) ≡ pointer_of i
unfolding pointer_of
pointer_of-index i = omega arith

pub index_of-direct : (i : ℕ) → after_index (index_of i) ≡ 0
index_of-direct i = omega arith

-- no earlier block has the pointer of one to which the inode itself points
pub pointer_of-apart : (i n : ℕ) → i < n → after_index n ≡ 0 → pointer_of i ≢ pointer_of n
unfolding pointer_of
pointer_of-apart i n less direct same = omega arith

-- two blocks of one index block have different positions in it
pub after_index-apart : (i n : ℕ) → i ≢ n → after_index i ≢ 0 → after_index n ≢ 0 → pointer_of i ≡ pointer_of n → after_index i ≢ after_index n
unfolding pointer_of
after_index-apart i n differs after_i after_n same equal = omega arith

-- blocks of different index blocks
pub index_of-apart : (i n : ℕ) → after_index i ≢ 0 → after_index n ≢ 0 → index_of i ≡ index_of n → pointer_of i ≡ pointer_of n
unfolding pointer_of
index_of-apart i n after_i after_n same = omega arith

-- the i-th block is one of the contents, not an index block
abbrev pub IsContent : ℕ → Type 0
IsContent i = (i + 247) % 257 ≢ 0

pub index_of-is_index : (i : ℕ) → after_index i ≢ 0 → (index_of i + 247) % 257 ≡ 0
index_of-is_index i following = omega arith

-- the blocks that contents need
pub wanted-is : (n : ℕ) → wanted n ≡ (n + 511) / 512 + ((n + 511) / 512 + 245) / 256
unfolding wanted
wanted-is n = refl

pub position_of_block-is : (j : ℕ) → position_of_block j ≡ j + (j + 246) / 256
unfolding position_of_block
position_of_block-is j = refl

need-first : (n : ℕ) → n ≤ 136192 → need V1 n ≡ wanted n
unfolding need
need-first n allowed = elim (cases_lt 10 ((n + 511) / 512)) [
  | inl many ↦ rw (lt-leb ((n + 511) / 512) 10 many) (omega (arith, wanted-is n))
  | inr few ↦ rw (le-leb ((n + 511) / 512) 10 few) (omega (arith, wanted-is n))
]

-- they are those of the version
pub need-wanted : (version : Version) (n : ℕ) → n ≤ greatest_length version → need version n ≡ wanted n
unfolding need
need-wanted V1 n allowed = need-first n allowed
need-wanted V2 n allowed = omega (arith, wanted-is n)

pub wanted-most : (version : Version) (n : ℕ) → n ≤ greatest_length version → wanted n ≤ most_owned version
wanted-most version n allowed = omega (arith, wanted-is n, greatest_length-is version)

-- a block that can be owned has a pointer in the inode, directly or through its index block
pub has_pointer : (version : Version) (i : ℕ) → i < most_owned version → pointer_of i < 10 + index_pointers version
has_pointer version i within = pointer_of-few version i within

-- the positions of the blocks of the contents in the sequence
pub pointer_of-first : (j : ℕ) → j < 10 → pointer_of (position_of_block j) ≡ j
unfolding pointer_of position_of_block
pointer_of-first j first = omega arith

pub after_index-first : (j : ℕ) → j < 10 → after_index (position_of_block j) ≡ 0
unfolding position_of_block
after_index-first j first = omega arith

pub pointer_of-past : (j : ℕ) → 10 ≤ j → pointer_of (position_of_block j) ≡ 10 + (j - 10) / 256
unfolding pointer_of position_of_block
pointer_of-past j past = omega arith

pub after_index-past : (j : ℕ) → 10 ≤ j → after_index (position_of_block j) ≡ (j - 10) % 256 + 1
unfolding position_of_block
after_index-past j past = omega arith

pub wanted-mono : (m n : ℕ) → m ≤ n → wanted m ≤ wanted n
wanted-mono m n le =
    let blocks : (m + 511) / 512 ≤ (n + 511) / 512 = omega arith in
    omega (arith, wanted-is m, wanted-is n, blocks)

-- no contents exceed the maximum length of version 2
pub greatest_length-most : (version : Version) → greatest_length version ≤ 660480
greatest_length-most V1 = omega arith
greatest_length-most V2 = omega arith

pub first_data-is : (version : Version) (inodes : ℕ) → first_data version inodes ≡ inode_blocks version inodes + 1
unfolding first_data
first_data-is version inodes = refl

-- the next block of the contents comes directly after those that are owned, or after an index block
pub position_of_block-next : (n : ℕ) → n % 512 ≡ 0 → position_of_block (n / 512) ≢ wanted n → suc (wanted n) ≡ position_of_block (n / 512)
position_of_block-next n full differs =
    let blocks : (n + 511) / 512 ≡ n / 512 = omega arith in
    omega (arith, wanted-is n, position_of_block-is (n / 512), blocks, differs)

-- an index block has the pointer after those of the previous index blocks
pub pointer_of-index_block : (i : ℕ) → (i + 247) % 257 ≡ 0 → pointer_of i ≡ 10 + (i - 10) / 257
unfolding pointer_of
pointer_of-index_block i index = omega arith
