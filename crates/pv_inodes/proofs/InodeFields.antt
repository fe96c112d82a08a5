-- The effect of writes on the fields of inodes, and on the pointers to the blocks that they own.
use Rattle.std.proofs.Common.{◌≡◌, ℕ, ◌+◌, ◌*◌, ◌-◌, ◌^◌, ◌<◌, ◌≤◌, ◌≢◌, ◌⊎◌, List, [], ◌∷◌, length, refl, sym, ap, ◌∙◌, inl, inr, arith}
use Rattle.std.proofs.lemmas.Bool.{cases_eq, cases_lt, eq-eqb, ne_eqb}
use Rattle.byteorder.specs.Endian.{little_bytes}
use Rattle.byteorder.specs.Numbers.{length-bytes_low_first}
use Rattle.pv_model.specs.declared.version.Version.{Version}
use Rattle.pv_model.specs.Machine.{Bytes, inode_length}
use Rattle.pv_inodes.specs.Layout.{block_at, number, splice, home, offset, kind_at, size_at, pointer_at, owned_at, with_kind, with_size, with_owned, pointer_count, most_owned, after_index, pointer_of}
use Rattle.pv_inodes.proofs.InodeLayouts.{pointers-fit, inode-fits, offset-apart, pointer_of-few, index_of, index_of-direct, pointer_of-index}
use Rattle.pv_inodes.proofs.BlockNumbers.{number-same, block_at-splice_other, number-splice_other, number-splice_below, number-splice_above, number-splice_same, number-splice_byte, length-splice, length-block_splice}

-- the fields of inode t are the same in both
pub record SameHead (version : Version) (bs cs : List Bytes) (t : ℕ) : Type 0 where
  pub kind : kind_at version cs t ≡ kind_at version bs t
  pub size : size_at version cs t ≡ size_at version bs t
  pub direct : (p : ℕ) → p < pointer_count version → pointer_at version cs t p ≡ pointer_at version bs t p

-- they are if its block is the same
pub same_head : (version : Version) (bs cs : List Bytes) (t : ℕ) → block_at cs (home version t) ≡ block_at bs (home version t) → SameHead version bs cs t
unfolding kind_at size_at pointer_at
same_head version bs cs t same = record {
  kind = number-same cs bs (home version t) (offset version t) 1 same;
  size = number-same cs bs (home version t) (offset version t + 4) 4 same;
  direct = λ i within. number-same cs bs (home version t) (offset version t + 8 + 2 * i) 2 same;
}

-- its i-th block is the same if the pointer to it and its index block are
pub owned_at-same : (version : Version) (bs cs : List Bytes) (t i : ℕ) → pointer_at version cs t (pointer_of i) ≡ pointer_at version bs t (pointer_of i) → (after_index i ≢ 0 → block_at cs (pointer_at version bs t (pointer_of i)) ≡ block_at bs (pointer_at version bs t (pointer_of i))) → owned_at version cs t i ≡ owned_at version bs t i
unfolding owned_at
owned_at-same version bs cs t i pointer index = elim (cases_eq (after_index i) 0) [
  | inl direct ↦ rw (eq-eqb (after_index i) 0 direct) pointer
  | inr following ↦ rw (ne_eqb (after_index i) 0 following, pointer) (number-same cs bs (pointer_at version bs t (pointer_of i)) (2 * (after_index i - 1)) 2 (index following))
]

-- a write to inode s at offset a
module _ (version : Version) (bs : List Bytes) (s a : ℕ) (new : Bytes) (within : home version s < length bs) (whole : length (block_at bs (home version s)) ≡ 512) (inside : a + length new ≤ inode_length version) where
  fits : offset version s + a + length new ≤ length (block_at bs (home version s))
  fits = omega (arith, inode-fits version s)

  field-other : (t b n : ℕ) → t ≢ s → b + n ≤ inode_length version → number (splice bs (home version s) (offset version s + a) new) (home version t) (offset version t + b) n ≡ number bs (home version t) (offset version t + b) n
  field-other t b n differs in_range = elim (cases_eq (home version t) (home version s)) [
    | inl same ↦ rw same (elim (offset-apart version t s differs same) [
      | inl before ↦ number-splice_below bs (home version s) (offset version s + a) new within fits (offset version t + b) n (omega arith)
      | inr following ↦ number-splice_above bs (home version s) (offset version s + a) new within fits (offset version t + b) n (omega arith)
    ])
    | inr other ↦ number-splice_other bs (home version s) (offset version s + a) new (home version t) (offset version t + b) n other
  ]

  field-before : (b n : ℕ) → b + n ≤ a → number (splice bs (home version s) (offset version s + a) new) (home version s) (offset version s + b) n ≡ number bs (home version s) (offset version s + b) n
  field-before b n before = number-splice_below bs (home version s) (offset version s + a) new within fits (offset version s + b) n (omega arith)

  field-following : (b n : ℕ) → a + length new ≤ b → number (splice bs (home version s) (offset version s + a) new) (home version s) (offset version s + b) n ≡ number bs (home version s) (offset version s + b) n
  field-following b n following = number-splice_above bs (home version s) (offset version s + a) new within fits (offset version s + b) n (omega arith)

  pub head-other : (t : ℕ) → t ≢ s → SameHead version bs (splice bs (home version s) (offset version s + a) new) t
  unfolding kind_at size_at pointer_at
  head-other t differs =
      let fit = pointers-fit version in
      let at_start : offset version t + 0 ≡ offset version t = omega arith in
      record {
        kind = rw at_start at (field-other t 0 1 differs (omega arith));
        size = field-other t 4 4 differs (omega arith);
        direct = λ i in_range.
            let place : offset version t + (8 + 2 * i) ≡ offset version t + 8 + 2 * i = omega arith in
            rw place at (field-other t (8 + 2 * i) 2 differs (omega arith));
      }

  pub kind-same : 1 ≤ a → kind_at version (splice bs (home version s) (offset version s + a) new) s ≡ kind_at version bs s
  unfolding kind_at
  kind-same following =
      let at_start : offset version s + 0 ≡ offset version s = omega arith in
      rw at_start at (field-before 0 1 following)

  pub size-same : (8 ≤ a) ⊎ (a + length new ≤ 4) → size_at version (splice bs (home version s) (offset version s + a) new) s ≡ size_at version bs s
  unfolding size_at
  size-same aside = elim aside [ inl following ↦ field-before 4 4 following | inr before ↦ field-following 4 4 before ]

  pub direct-same : (i : ℕ) → (8 + 2 * i + 2 ≤ a) ⊎ (a + length new ≤ 8 + 2 * i) → pointer_at version (splice bs (home version s) (offset version s + a) new) s i ≡ pointer_at version bs s i
  unfolding pointer_at
  direct-same i aside =
      let place : offset version s + (8 + 2 * i) ≡ offset version s + 8 + 2 * i = omega arith in
      elim aside [
        | inl following ↦ rw place at (field-before (8 + 2 * i) 2 (omega arith))
        | inr before ↦ rw place at (field-following (8 + 2 * i) 2 before)
      ]

-- the pointers in the inode, and those in an index block
pub owned_at-direct : (version : Version) (bs : List Bytes) (t i : ℕ) → after_index i ≡ 0 → owned_at version bs t i ≡ pointer_at version bs t (pointer_of i)
unfolding owned_at
owned_at-direct version bs t i direct = rw (eq-eqb (after_index i) 0 direct) refl

pub owned_at-entry : (version : Version) (bs : List Bytes) (t i : ℕ) → after_index i ≢ 0 → owned_at version bs t i ≡ number bs (pointer_at version bs t (pointer_of i)) (2 * (after_index i - 1)) 2
unfolding owned_at
owned_at-entry version bs t i following = rw (ne_eqb (after_index i) 0 following) refl

-- the index block of the i-th block
pub index-is : (version : Version) (bs : List Bytes) (t i : ℕ) → pointer_at version bs t (pointer_of i) ≡ owned_at version bs t (index_of i)
index-is version bs t i = sym (owned_at-direct version bs t (index_of i) (index_of-direct i) ∙ ap (pointer_at version bs t) (pointer_of-index i))

module _ (version : Version) (bs : List Bytes) (s size : ℕ) (within : home version s < length bs) (whole : length (block_at bs (home version s)) ≡ 512) (small : size < 2 ^ 32) where
  long : length (little_bytes 4 size) ≡ 4
  long = length-bytes_low_first 0 4 size

  inside : 4 + length (little_bytes 4 size) ≤ inode_length version
  inside = omega (arith, long, pointers-fit version)

  pub size_at-with_size : size_at version (with_size version bs s size) s ≡ size
  unfolding size_at with_size
  size_at-with_size = number-splice_same bs (home version s) (offset version s + 4) 4 size within (omega (arith, inode-fits version s, pointers-fit version)) (omega arith)

  pub kind_at-with_size : kind_at version (with_size version bs s size) s ≡ kind_at version bs s
  unfolding with_size
  kind_at-with_size = kind-same version bs s 4 (little_bytes 4 size) within whole inside (omega arith)

  pub pointer_at-with_size : (i : ℕ) → pointer_at version (with_size version bs s size) s i ≡ pointer_at version bs s i
  unfolding with_size
  pointer_at-with_size i = direct-same version bs s 4 (little_bytes 4 size) within whole inside i (inr (omega (arith, long)))

  -- and the other inodes do not change
  pub head-with_size : (t : ℕ) → t ≢ s → SameHead version bs (with_size version bs s size) t
  unfolding with_size
  head-with_size t differs = head-other version bs s 4 (little_bytes 4 size) within whole inside t differs

  pub block_at-with_size : (y : ℕ) → y ≢ home version s → block_at (with_size version bs s size) y ≡ block_at bs y
  unfolding with_size
  block_at-with_size y other = block_at-splice_other bs (home version s) (offset version s + 4) (little_bytes 4 size) y other

  pub length-with_size : length (with_size version bs s size) ≡ length bs
  unfolding with_size
  length-with_size = length-splice bs (home version s) (offset version s + 4) (little_bytes 4 size)

  pub length-block_with_size : length (block_at (with_size version bs s size) (home version s)) ≡ 512
  unfolding with_size
  length-block_with_size = length-block_splice bs (home version s) (offset version s + 4) (little_bytes 4 size) within (omega (arith, long, inode-fits version s, pointers-fit version)) ∙ whole

module _ (version : Version) (bs : List Bytes) (s kind : ℕ) (within : home version s < length bs) (whole : length (block_at bs (home version s)) ≡ 512) where
  at_start : offset version s + 0 ≡ offset version s
  at_start = omega arith

  pub kind_at-with_kind : kind_at version (with_kind version bs s kind) s ≡ kind
  unfolding kind_at with_kind
  kind_at-with_kind = number-splice_byte bs (home version s) (offset version s) kind within (omega (arith, inode-fits version s, pointers-fit version))

  pub size_at-with_kind : size_at version (with_kind version bs s kind) s ≡ size_at version bs s
  unfolding with_kind
  size_at-with_kind = rw at_start at (size-same version bs s 0 (kind ∷ []) within whole (omega (arith, pointers-fit version)) (inr (omega arith)))

  -- and the other inodes do not change
  pub head-with_kind : (t : ℕ) → t ≢ s → SameHead version bs (with_kind version bs s kind) t
  unfolding with_kind
  head-with_kind t differs = rw at_start at (head-other version bs s 0 (kind ∷ []) within whole (omega (arith, pointers-fit version)) t differs)

  pub block_at-with_kind : (y : ℕ) → y ≢ home version s → block_at (with_kind version bs s kind) y ≡ block_at bs y
  unfolding with_kind
  block_at-with_kind y other = block_at-splice_other bs (home version s) (offset version s) (kind ∷ []) y other

  pub length-with_kind : length (with_kind version bs s kind) ≡ length bs
  unfolding with_kind
  length-with_kind = length-splice bs (home version s) (offset version s) (kind ∷ [])

  pub length-block_with_kind : length (block_at (with_kind version bs s kind) (home version s)) ≡ 512
  unfolding with_kind
  length-block_with_kind = length-block_splice bs (home version s) (offset version s) (kind ∷ []) within (omega (arith, inode-fits version s, pointers-fit version)) ∙ whole

-- a pointer in the inode
module _ (version : Version) (bs : List Bytes) (s i k : ℕ) (within : home version s < length bs) (whole : length (block_at bs (home version s)) ≡ 512) (direct : after_index i ≡ 0) (last : i < most_owned version) (small : k < 2 ^ 16) where
  pointer : List Bytes
  pointer = splice bs (home version s) (offset version s + (8 + 2 * pointer_of i)) (little_bytes 2 k)

  two : length (little_bytes 2 k) ≡ 2
  two = length-bytes_low_first 0 2 k

  in_inode : 8 + 2 * pointer_of i + length (little_bytes 2 k) ≤ inode_length version
  in_inode = omega (arith, two, pointer_of-few version i last, pointers-fit version)

  with_owned-direct : with_owned version bs s i k ≡ pointer
  unfolding with_owned pointer
  with_owned-direct =
      let place : offset version s + 8 + 2 * pointer_of i ≡ offset version s + (8 + 2 * pointer_of i) = omega arith in
      rw (eq-eqb (after_index i) 0 direct, place) refl

  pub pointer_at-with_direct_same : pointer_at version (with_owned version bs s i k) s (pointer_of i) ≡ k
  unfolding pointer_at pointer
  pointer_at-with_direct_same =
      let place : offset version s + (8 + 2 * pointer_of i) ≡ offset version s + 8 + 2 * pointer_of i = omega arith in
      rw (with_owned-direct, place) (number-splice_same bs (home version s) (offset version s + 8 + 2 * pointer_of i) 2 k within (omega (arith, two, in_inode, inode-fits version s)) (omega arith))

  pub pointer_at-with_direct_other : (p : ℕ) → p ≢ pointer_of i → pointer_at version (with_owned version bs s i k) s p ≡ pointer_at version bs s p
  unfolding pointer
  pointer_at-with_direct_other p differs = rw with_owned-direct (direct-same version bs s (8 + 2 * pointer_of i) (little_bytes 2 k) within whole in_inode p (elim (cases_lt p (pointer_of i)) [
    | inl below ↦ inl (omega arith)
    | inr above ↦ inr (omega (arith, two))
  ]))

  pub kind_at-with_direct : kind_at version (with_owned version bs s i k) s ≡ kind_at version bs s
  unfolding pointer
  kind_at-with_direct = rw with_owned-direct (kind-same version bs s (8 + 2 * pointer_of i) (little_bytes 2 k) within whole in_inode (omega arith))

  pub size_at-with_direct : size_at version (with_owned version bs s i k) s ≡ size_at version bs s
  unfolding pointer
  size_at-with_direct = rw with_owned-direct (size-same version bs s (8 + 2 * pointer_of i) (little_bytes 2 k) within whole in_inode (inl (omega arith)))

  pub head-with_direct : (t : ℕ) → t ≢ s → SameHead version bs (with_owned version bs s i k) t
  unfolding pointer
  head-with_direct t differs = rw with_owned-direct (head-other version bs s (8 + 2 * pointer_of i) (little_bytes 2 k) within whole in_inode t differs)

  pub block_at-with_direct : (y : ℕ) → y ≢ home version s → block_at (with_owned version bs s i k) y ≡ block_at bs y
  unfolding pointer
  block_at-with_direct y other = rw with_owned-direct (block_at-splice_other bs (home version s) (offset version s + (8 + 2 * pointer_of i)) (little_bytes 2 k) y other)

  pub length-block_with_direct : length (block_at (with_owned version bs s i k) (home version s)) ≡ 512
  unfolding pointer
  length-block_with_direct = rw with_owned-direct (length-block_splice bs (home version s) (offset version s + (8 + 2 * pointer_of i)) (little_bytes 2 k) within (omega (arith, in_inode, inode-fits version s)) ∙ whole)

pub length-with_owned : (version : Version) (bs : List Bytes) (s i k : ℕ) → length (with_owned version bs s i k) ≡ length bs
unfolding with_owned
length-with_owned version bs s i k = elim (cases_eq (after_index i) 0) [
  | inl direct ↦ rw (eq-eqb (after_index i) 0 direct) (length-splice bs (home version s) (offset version s + 8 + 2 * pointer_of i) (little_bytes 2 k))
  | inr following ↦ rw (ne_eqb (after_index i) 0 following) (length-splice bs (pointer_at version bs s (pointer_of i)) (2 * (after_index i - 1)) (little_bytes 2 k))
]

-- a pointer in an index block
module _ (version : Version) (bs : List Bytes) (s i k : ℕ) (within : pointer_at version bs s (pointer_of i) < length bs) (whole : length (block_at bs (pointer_at version bs s (pointer_of i))) ≡ 512) (following : after_index i ≢ 0) (small : k < 2 ^ 16) where
  entry : List Bytes
  entry = splice bs (pointer_at version bs s (pointer_of i)) (2 * (after_index i - 1)) (little_bytes 2 k)

  pair : length (little_bytes 2 k) ≡ 2
  pair = length-bytes_low_first 0 2 k

  with_owned-entry : with_owned version bs s i k ≡ entry
  unfolding with_owned entry
  with_owned-entry = rw (ne_eqb (after_index i) 0 following) refl

  pub block_at-with_entry : (y : ℕ) → y ≢ pointer_at version bs s (pointer_of i) → block_at (with_owned version bs s i k) y ≡ block_at bs y
  unfolding entry
  block_at-with_entry y other = rw with_owned-entry (block_at-splice_other bs (pointer_at version bs s (pointer_of i)) (2 * (after_index i - 1)) (little_bytes 2 k) y other)

  pub length-block_with_entry : length (block_at (with_owned version bs s i k) (pointer_at version bs s (pointer_of i))) ≡ 512
  unfolding entry
  length-block_with_entry = rw with_owned-entry (length-block_splice bs (pointer_at version bs s (pointer_of i)) (2 * (after_index i - 1)) (little_bytes 2 k) within (omega (arith, pair)) ∙ whole)

  pub entry-same : number (with_owned version bs s i k) (pointer_at version bs s (pointer_of i)) (2 * (after_index i - 1)) 2 ≡ k
  unfolding entry
  entry-same = rw with_owned-entry (number-splice_same bs (pointer_at version bs s (pointer_of i)) (2 * (after_index i - 1)) 2 k within (omega arith) (omega arith))

  pub entry-other : (j : ℕ) → after_index j ≢ 0 → after_index j ≢ after_index i → number (with_owned version bs s i k) (pointer_at version bs s (pointer_of i)) (2 * (after_index j - 1)) 2 ≡ number bs (pointer_at version bs s (pointer_of i)) (2 * (after_index j - 1)) 2
  unfolding entry
  entry-other j past differs = rw with_owned-entry (elim (cases_lt (after_index j) (after_index i)) [
    | inl below ↦ number-splice_below bs (pointer_at version bs s (pointer_of i)) (2 * (after_index i - 1)) (little_bytes 2 k) within (omega (arith, pair)) (2 * (after_index j - 1)) 2 (omega arith)
    | inr above ↦ number-splice_above bs (pointer_at version bs s (pointer_of i)) (2 * (after_index i - 1)) (little_bytes 2 k) within (omega (arith, pair)) (2 * (after_index j - 1)) 2 (omega (arith, pair))
  ])
