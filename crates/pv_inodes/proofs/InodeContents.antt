-- The contents of inodes, byte by byte.
use Rattle.std.proofs.Common.{◌≡◌, ℕ, zero, suc, ◌+◌, ◌/◌, ◌%◌, ◌<◌, ◌≤◌, ◌≢◌, List, [], ◌∷◌, map, length, get_or, set, Option, None, Some, refl, sym, ap, ap₂, ◌∙◌, inl, inr, arith}
use Rattle.std.specs.List.{range_with_len, sum_by}
use Rattle.std.proofs.lemmas.Bool.{cases_eq, cases_lt, le-leb, lt-leb, eq-eqb, ne_eqb}
use Rattle.std.proofs.lemmas.List.{same_lists, length-set, get_or-set_same, get_or-set_other}
use Rattle.std.proofs.lemmas.List.FromFn.{length-map-range_with_len, get_or-map-range_with_len, fill_by_all}
use Rattle.std.proofs.lemmas.List.Sums.{sum_by-cons}
use Rattle.pv_model.specs.Machine.{Bytes, Numbered, at_number, present, need, greatest_length}
use Rattle.pv_model.specs.declared.version.Version.{Version}
use Rattle.pv_model.specs.declared.version.Version.TheVariants.{V1, V2}
use Rattle.pv_inodes.specs.Files.{Contained, kind_of_number, room_of}
use Rattle.pv_inodes.specs.Layout.{block_at, kind_at, size_at, owned_at, owned_count, wanted, position_of_block, content_byte, content_at, contained_at, nodes_in}
use Rattle.pv_inodes.specs.Owning.{sum_over}
use Rattle.pv_inodes.proofs.InodeLayouts.{IsContent, position_of_block-is, wanted-is, need-wanted}
use Rattle.pv_inodes.proofs.NumberMaps.{at_number-get_or}

-- contents of the same number of blocks need the same number
pub wanted-same : (m n : ℕ) → (m + 511) / 512 ≡ (n + 511) / 512 → wanted m ≡ wanted n
unfolding wanted
wanted-same m n same = rw same refl

-- longer contents need at least this number
need-mono_first : (m n : ℕ) → m ≤ n → need V1 m ≤ need V1 n
unfolding need
need-mono_first m n le =
    let blocks : (m + 511) / 512 ≤ (n + 511) / 512 = omega arith in
    elim (cases_lt 10 ((m + 511) / 512)) [
      | inl many_m ↦ rw (lt-leb ((m + 511) / 512) 10 many_m, lt-leb ((n + 511) / 512) 10 (omega arith)) (omega arith)
      | inr few_m ↦ elim (cases_lt 10 ((n + 511) / 512)) [
        | inl many_n ↦ rw (le-leb ((m + 511) / 512) 10 few_m, lt-leb ((n + 511) / 512) 10 many_n) (omega arith)
        | inr few_n ↦ rw (le-leb ((m + 511) / 512) 10 few_m, le-leb ((n + 511) / 512) 10 few_n) (omega arith)
      ]
    ]

need-mono_second : (m n : ℕ) → m ≤ n → need V2 m ≤ need V2 n
unfolding need
need-mono_second m n le =
    let blocks : (m + 511) / 512 ≤ (n + 511) / 512 = omega arith in
    omega arith

pub need-mono : (version : Version) (m n : ℕ) → m ≤ n → need version m ≤ need version n
need-mono V1 m n le = need-mono_first m n le
need-mono V2 m n le = need-mono_second m n le

-- contents are not in an index block
pub position_of_block-content : (j : ℕ) → IsContent (position_of_block j)
position_of_block-content j = omega (arith, position_of_block-is j)

-- different blocks of contents have different positions
pub position_of_block-apart : (i j : ℕ) → position_of_block i ≡ position_of_block j → i ≡ j
position_of_block-apart i j same = omega (arith, position_of_block-is i, position_of_block-is j)

-- each byte of the contents is in a block that is needed
pub position_of_block-needed : (n x : ℕ) → x < n → position_of_block (x / 512) < wanted n
position_of_block-needed n x within =
    let blocks : x / 512 < (n + 511) / 512 = omega arith in
    omega (arith, position_of_block-is (x / 512), wanted-is n)

pub owned_count-used : (version : Version) (bs : List Bytes) (s : ℕ) → 0 < kind_at version bs s → owned_count version bs s ≡ wanted (size_at version bs s)
unfolding owned_count
owned_count-used version bs s used = rw (ne_eqb (kind_at version bs s) 0 (λ e. omega arith)) refl

pub owned_count-free : (version : Version) (bs : List Bytes) (s : ℕ) → kind_at version bs s ≡ 0 → owned_count version bs s ≡ 0
unfolding owned_count
owned_count-free version bs s free = rw (eq-eqb (kind_at version bs s) 0 free) refl

pub owned_count-same : (version : Version) (bs cs : List Bytes) (s : ℕ) → kind_at version cs s ≡ kind_at version bs s → size_at version cs s ≡ size_at version bs s → owned_count version cs s ≡ owned_count version bs s
unfolding owned_count
owned_count-same version bs cs s kind size = rw (kind, size) refl

pub length-content_at : (version : Version) (bs : List Bytes) (s : ℕ) → length (content_at version bs s) ≡ size_at version bs s
unfolding content_at
length-content_at version bs s = length-map-range_with_len (content_byte version bs s) 0 (size_at version bs s)

pub get_or-content_at : (version : Version) (bs : List Bytes) (s x : ℕ) → x < size_at version bs s → get_or (content_at version bs s) x 0 ≡ content_byte version bs s x
unfolding content_at
get_or-content_at version bs s x within = get_or-map-range_with_len (content_byte version bs s) 0 (size_at version bs s) x x 0 within (omega arith)

-- contents, by their bytes
pub content_at-is : (version : Version) (bs : List Bytes) (s : ℕ) (xs : Bytes) → length xs ≡ size_at version bs s → ((x : ℕ) → x < size_at version bs s → get_or xs x 0 ≡ content_byte version bs s x) → content_at version bs s ≡ xs
unfolding content_at
content_at-is version bs s xs long same = sym (fill_by_all (content_byte version bs s) xs (size_at version bs s) 0 long same)

pub contained_at-used : (version : Version) (bs : List Bytes) (s : ℕ) → 0 < kind_at version bs s → contained_at version bs s ≡ Some (record { sort = kind_of_number (kind_at version bs s); bytes = content_at version bs s })
unfolding contained_at
contained_at-used version bs s used = rw (ne_eqb (kind_at version bs s) 0 (λ e. omega arith)) refl

pub contained_at-free : (version : Version) (bs : List Bytes) (s : ℕ) → kind_at version bs s ≡ 0 → contained_at version bs s ≡ None
unfolding contained_at
contained_at-free version bs s free = rw (eq-eqb (kind_at version bs s) 0 free) refl

-- inode s is the same in both
pub record SameNode (version : Version) (bs cs : List Bytes) (s : ℕ) : Type 0 where
  pub kind : kind_at version cs s ≡ kind_at version bs s
  pub size : size_at version cs s ≡ size_at version bs s
  pub owned : (i : ℕ) → i < owned_count version bs s → owned_at version cs s i ≡ owned_at version bs s i
  pub blocks : (i : ℕ) → i < owned_count version bs s → IsContent i → block_at cs (owned_at version bs s i) ≡ block_at bs (owned_at version bs s i)

-- a byte whose block is the same
pub content_byte-same : (version : Version) (bs cs : List Bytes) (s x : ℕ) → owned_at version cs s (position_of_block (x / 512)) ≡ owned_at version bs s (position_of_block (x / 512)) → block_at cs (owned_at version bs s (position_of_block (x / 512))) ≡ block_at bs (owned_at version bs s (position_of_block (x / 512))) → content_byte version cs s x ≡ content_byte version bs s x
unfolding content_byte
content_byte-same version bs cs s x owned block = rw (owned, block) refl

pub contained_at-same : (version : Version) (bs cs : List Bytes) (s : ℕ) → SameNode version bs cs s → contained_at version cs s ≡ contained_at version bs s
contained_at-same version bs cs s same = elim (cases_eq (kind_at version bs s) 0) [
  | inl free ↦ contained_at-free version cs s (same.kind ∙ free) ∙ sym (contained_at-free version bs s free)
  | inr used ↦
      let used_bs : 0 < kind_at version bs s = omega arith in
      let used_cs : 0 < kind_at version cs s = omega (arith, same.kind) in
      let counts = owned_count-used version bs s used_bs in
      let bytes : content_at version cs s ≡ content_at version bs s = content_at-is version cs s (content_at version bs s) (length-content_at version bs s ∙ sym same.size) (λ x within.
      let in_old : x < size_at version bs s = omega (arith, same.size) in
      let place : position_of_block (x / 512) < owned_count version bs s = omega (arith, position_of_block-needed (size_at version bs s) x in_old) in
      get_or-content_at version bs s x in_old ∙ sym (content_byte-same version bs cs s x (same.owned (position_of_block (x / 512)) place) (same.blocks (position_of_block (x / 512)) place (position_of_block-content (x / 512))))) in
      contained_at-used version cs s used_cs
      ∙ ap (λ c. Some c) (ap₂ (λ (k : ℕ) (b : Bytes). record { sort = kind_of_number k; bytes = b }) same.kind bytes)
      ∙ sym (contained_at-used version bs s used_bs)
]

-- the inodes by number, including number 0
pub length-nodes_in : (version : Version) (bs : List Bytes) (inodes : ℕ) → length (nodes_in version bs inodes) ≡ suc inodes
unfolding nodes_in
length-nodes_in version bs inodes = ap suc (length-map-range_with_len (contained_at version bs) 0 inodes)

pub at_number-nodes_in : (version : Version) (bs : List Bytes) (inodes s : ℕ) → s < inodes → at_number (nodes_in version bs inodes) (suc s) ≡ contained_at version bs s
unfolding nodes_in
at_number-nodes_in version bs inodes s below =
    at_number-get_or (map (contained_at version bs) (range_with_len 0 inodes)) s ∙ get_or-map-range_with_len (contained_at version bs) 0 inodes s s None below (omega arith)

pub at_number-nodes_in_zero : (version : Version) (bs : List Bytes) (inodes : ℕ) → at_number (nodes_in version bs inodes) 0 ≡ None
unfolding nodes_in
at_number-nodes_in_zero version bs inodes = refl

-- if one inode changes, only it differs
pub nodes_in-set : (version : Version) (bs cs : List Bytes) (inodes s : ℕ) → s < inodes → ((t : ℕ) → t < inodes → t ≢ s → contained_at version cs t ≡ contained_at version bs t) → nodes_in version cs inodes ≡ set (nodes_in version bs inodes) (suc s) (contained_at version cs s)
unfolding nodes_in
nodes_in-set version bs cs inodes s below same =
    let length_new = length-map-range_with_len (contained_at version cs) 0 inodes in
    let length_old = length-map-range_with_len (contained_at version bs) 0 inodes in
    let length_after = length-set (map (contained_at version bs) (range_with_len 0 inodes)) s (contained_at version cs s) in
    ap (λ nodes. None ∷ nodes) (same_lists _ _ (omega arith) (λ t d within.
    get_or-map-range_with_len (contained_at version cs) 0 inodes t t d (omega arith) (omega arith)
    ∙ elim (cases_eq t s) [
      | inl equal ↦ rw equal (sym (get_or-set_same (map (contained_at version bs) (range_with_len 0 inodes)) s (contained_at version cs s) d (omega arith)))
      | inr differs ↦
          same t (omega arith) differs
          ∙ sym (get_or-set_other (map (contained_at version bs) (range_with_len 0 inodes)) s t (contained_at version cs s) d differs
          ∙ get_or-map-range_with_len (contained_at version bs) 0 inodes t t d (omega arith) (omega arith))
    ]))

abbrev room_of_option : Version → Option Contained → ℕ
room_of_option version None = 0
room_of_option version (Some c) = room_of version c

room_of-contained_at : (version : Version) (bs : List Bytes) (s : ℕ) → (0 < kind_at version bs s → size_at version bs s ≤ greatest_length version) → room_of_option version (contained_at version bs s) ≡ owned_count version bs s
room_of-contained_at version bs s allowed = elim (cases_eq (kind_at version bs s) 0) [
  | inl free ↦ ap (room_of_option version) (contained_at-free version bs s free) ∙ sym (owned_count-free version bs s free)
  | inr used ↦
      let used_s : 0 < kind_at version bs s = omega arith in
      ap (room_of_option version) (contained_at-used version bs s used_s) ∙ ap (need version) (length-content_at version bs s) ∙ need-wanted version (size_at version bs s) (allowed used_s) ∙ sym (owned_count-used version bs s used_s)
]

sum_by-present : (version : Version) (xs : Numbered Contained) → sum_by (room_of version) (present xs) ≡ sum_by (room_of_option version) xs
sum_by-present version [] = refl
sum_by-present version (None ∷ xs) = omega (arith, sum_by-present version xs, sum_by-cons (room_of_option version) None xs)
sum_by-present version (Some c ∷ xs) = omega (arith, sum_by-present version xs, sum_by-cons (room_of_option version) (Some c) xs, sum_by-cons (room_of version) c (present xs))

sum_by-map_range : (version : Version) (bs : List Bytes) (a n : ℕ) → ((s : ℕ) → s < a + n → 0 < kind_at version bs s → size_at version bs s ≤ greatest_length version) → sum_by (room_of_option version) (map (contained_at version bs) (range_with_len a n)) ≡ sum_by (owned_count version bs) (range_with_len a n)
sum_by-map_range version bs a zero allowed = refl
sum_by-map_range version bs a (suc n) allowed =
    let rest = sum_by-map_range version bs (a + 1) n (λ s below. allowed s (omega arith)) in
    let first = room_of-contained_at version bs a (allowed a (omega arith)) in
    omega (arith, rest, first, sum_by-cons (room_of_option version) (contained_at version bs a) (map (contained_at version bs) (range_with_len (a + 1) n)), sum_by-cons (owned_count version bs) a (range_with_len (a + 1) n))

-- the blocks that the contents need are those that the inodes own
pub room-nodes_in : (version : Version) (bs : List Bytes) (inodes : ℕ) → ((s : ℕ) → s < inodes → 0 < kind_at version bs s → size_at version bs s ≤ greatest_length version) → sum_by (room_of version) (present (nodes_in version bs inodes)) ≡ sum_over inodes (owned_count version bs)
unfolding nodes_in sum_over
room-nodes_in version bs inodes allowed = sum_by-present version (map (contained_at version bs) (range_with_len 0 inodes)) ∙ sum_by-map_range version bs 0 inodes (λ s below. allowed s (omega arith))

-- a byte of the contents in its block
pub content_byte-is : (version : Version) (bs : List Bytes) (s x : ℕ) → content_byte version bs s x ≡ get_or (block_at bs (owned_at version bs s (position_of_block (x / 512)))) (x % 512) 0
unfolding content_byte
content_byte-is version bs s x = refl
