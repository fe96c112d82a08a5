-- The blocks that the inodes of an image use, as lists and as the sequences that they own.
use Rattle.std.proofs.Common.{◌≡◌, ℕ, zero, suc, ◌+◌, ◌*◌, ◌-◌, ◌/◌, ◌%◌, ◌<◌, ◌≤◌, ◌≢◌, List, [], ◌∷◌, ◌++◌, length, get_or, take, refl, sym, ap, subst, ◌∙◌, inl, inr, arith}
use Rattle.std.specs.List.{flat_map, range_with_len, AllByRecursion, IsDistinct}
use Rattle.std.specs.Prelude.{◌==◌, if◌then◌else◌}
use Rattle.std.proofs.lemmas.Bool.{cases_eq, cases_order, eq-eqb, ne_eqb}
use Rattle.std.proofs.lemmas.Bool.Decides.{Decides-eqb}
use Rattle.std.proofs.lemmas.List.{length-append, length-take-le, get_or-take, get_or_append_left, get_or-append_right, take-take}
use Rattle.std.proofs.lemmas.List.Concat.{get_or-flat_map}
use Rattle.std.proofs.lemmas.List.Folds.{length-flat_map-take}
use Rattle.std.proofs.lemmas.List.FromFn.{length-range_with_len, get_or-range_with_len}
use Rattle.std.proofs.lemmas.Map.Made.{AllPairs-from_IsDistinct}
use Rattle.pv_model.specs.declared.version.Version.{Version}
use Rattle.pv_model.specs.Machine.{Bytes, size, used_index, used_content, inode_blocks, kind, greatest_length}
use Rattle.pv_model.specs.Mount.{used_by}
use Rattle.pv_blocks.specs.BlockStore.{blocks_in_bytes}
use Rattle.pv_blocks.proofs.BlockStores.{length-blocks_in_bytes}
use Rattle.pv_inodes.specs.Images.{AreInodes}
use Rattle.pv_inodes.specs.Layout.{kind_at, size_at, owned_at, owned_count, pointer_at, most_owned, pointer_of, after_index, position_of_block}
use Rattle.pv_inodes.specs.Sound.{first_data}
use Rattle.pv_inodes.proofs.InodeContents.{owned_count-used, owned_count-free}
use Rattle.pv_inodes.proofs.InodeFields.{owned_at-direct}
use Rattle.pv_inodes.proofs.ImageBlocks.{kind-inode, size-inode, length-used_index, get_or-used_index, length-used_content, get_or-used_content}
use Rattle.pv_inodes.proofs.InodeLayouts.{first_data-is, wanted-is, wanted-most, position_of_block-is, pointer_of-index_block}

-- ---- lists

pub all-at : {X : Type 0} (P : X → Type 0) (xs : List X) (i : ℕ) (d : X) → AllByRecursion P xs → i < length xs → P (get_or xs i d)
all-at P [] i d all within = absurd (omega arith)
all-at P (x ∷ xs) zero d all within = all.0
all-at P (x ∷ xs) (suc i) d all within = all-at P xs i d all.1 (omega arith)

-- in a list without repetitions a number has one position
pub one_place : (xs : List ℕ) (i j : ℕ) → IsDistinct ◌==◌ xs → i < length xs → j < length xs → get_or xs i 0 ≡ get_or xs j 0 → i ≡ j
one_place xs i j once within_i within_j same =
    let pairs = AllPairs-from_IsDistinct {eq = ◌==◌} Decides-eqb xs once in
    elim (cases_order i j) [
      | inl equal ↦ equal
      | inr (inl less) ↦ absurd (pairs i j 0 less within_j same)
      | inr (inr more) ↦ absurd (pairs j i 0 more within_i (sym same))
    ]

-- the positions of the parts of a concatenation
module _ (f : ℕ → List ℕ) (a n : ℕ) where
  abbrev ns : List ℕ
  ns = range_with_len a n

  abbrev start_of : ℕ → ℕ
  start_of s = length (flat_map f (take s ns))

  number_is : (s : ℕ) → s < n → get_or ns s 0 ≡ a + s
  number_is s below = get_or-range_with_len a n s 0 below

  -- an element of a part is one of the whole
  pub place_in : (s i : ℕ) → s < n → i < length (f (a + s)) → get_or (flat_map f ns) (start_of s + i) 0 ≡ get_or (f (a + s)) i 0
  place_in s i below within =
      let long = length-range_with_len a n in
      let component = ap (λ k. length (f k)) (number_is s below) in
      get_or-flat_map f ns s i 0 0 (omega arith) (omega arith) ∙ ap (λ k. get_or (f k) i 0) (number_is s below)

  pub place_within : (s i : ℕ) → s < n → i < length (f (a + s)) → start_of s + i < length (flat_map f ns)
  place_within s i below within =
      let long = length-range_with_len a n in
      let component = ap (λ k. length (f k)) (number_is s below) in
      omega (arith, length-flat_map-take f ns s 0 (omega arith))

  -- a part ends before the next
  ends_before : (s t : ℕ) → s < t → t < n → start_of s + length (f (a + s)) ≤ start_of t
  ends_before s t less below =
      let long = length-range_with_len a n in
      let front : take s (take t ns) ≡ take s ns = take-take s t ns (omega arith) in
      let component : get_or (take t ns) s 0 ≡ a + s = get_or-take t ns s 0 less ∙ number_is s (omega arith) in
      let taken = length-take-le t ns (omega arith) in
      let ends = length-flat_map-take f (take t ns) s 0 (omega arith) in
      omega (arith, ends, ap (λ (xs : List ℕ). length (flat_map f xs)) front, ap (λ k. length (f k)) component)

  pub one_component : IsDistinct ◌==◌ (flat_map f ns) → (s i t j : ℕ) → s < n → i < length (f (a + s)) → t < n → j < length (f (a + t)) → get_or (f (a + s)) i 0 ≡ get_or (f (a + t)) j 0 → (s ≡ t) × (i ≡ j)
  one_component once s i t j below_s within_s below_t within_t same =
      let place : start_of s + i ≡ start_of t + j = one_place (flat_map f ns) (start_of s + i) (start_of t + j) once (place_within s i below_s within_s) (place_within t j below_t within_t)
      (place_in s i below_s within_s ∙ same ∙ sym (place_in t j below_t within_t)) in
      elim (cases_order s t) [
        | inl equal ↦ let starts = ap start_of equal in (equal, omega arith)
        | inr (inl less) ↦ absurd (omega (arith, ends_before s t less below_t))
        | inr (inr more) ↦ absurd (omega (arith, ends_before t s more below_s))
      ]

  pub all_components : (P : ℕ → Type 0) → AllByRecursion P (flat_map f ns) → (s i : ℕ) → s < n → i < length (f (a + s)) → P (get_or (f (a + s)) i 0)
  all_components P all s i below within =
      subst P (place_in s i below within) (all-at P (flat_map f ns) (start_of s + i) 0 all (place_within s i below within))

-- ---- sequences

-- the position of the i-th block of a sequence in the list that has the blocks of the contents before the index blocks
abbrev pub listed_at : ℕ → ℕ → ℕ
listed_at b i = if (i + 247) % 257 == 0 then b + (i - 10) / 257 else i - (i + 246) / 257

listed-index : (b i : ℕ) → (i + 247) % 257 ≡ 0 → listed_at b i ≡ b + (i - 10) / 257
listed-index b i index = rw (eq-eqb ((i + 247) % 257) 0 index) refl

listed-content : (b i : ℕ) → (i + 247) % 257 ≢ 0 → listed_at b i ≡ i - (i + 246) / 257
listed-content b i other = rw (ne_eqb ((i + 247) % 257) 0 other) refl

pub listed-within : (b i : ℕ) → i < b + (b + 245) / 256 → listed_at b i < b + (b + 245) / 256
listed-within b i within = elim (cases_eq ((i + 247) % 257) 0) [
  | inl index ↦ omega (arith, listed-index b i index)
  | inr other ↦ omega (arith, listed-content b i other)
]

pub listed-once : (b i j : ℕ) → i < b + (b + 245) / 256 → j < b + (b + 245) / 256 → listed_at b i ≡ listed_at b j → i ≡ j
listed-once b i j within_i within_j same = elim (cases_eq ((i + 247) % 257) 0) [
  | inl index_i ↦ elim (cases_eq ((j + 247) % 257) 0) [
    | inl index_j ↦ omega (arith, listed-index b i index_i, listed-index b j index_j)
    | inr other_j ↦ absurd (omega (arith, listed-index b i index_i, listed-content b j other_j))
  ]
  | inr other_i ↦ elim (cases_eq ((j + 247) % 257) 0) [
    | inl index_j ↦ absurd (omega (arith, listed-content b i other_i, listed-index b j index_j))
    | inr other_j ↦ omega (arith, listed-content b i other_i, listed-content b j other_j)
  ]
]

module _ (v : Version) (bytes : Bytes) (count : ℕ) (whole : length bytes ≡ 512 * count) where
  abbrev bs : List Bytes
  bs = blocks_in_bytes count bytes

  pub used_by-used : (n : ℕ) → 0 < kind v bytes n → used_by v bytes n ≡ used_content v bytes n ++ used_index v bytes n
  used_by-used n used = rw (ne_eqb (kind v bytes n) 0 (λ e. omega arith)) refl

  module _ (s : ℕ) (used : 0 < kind_at v bs s) (allowed : size_at v bs s ≤ greatest_length v) where
    in_use : 0 < kind v bytes (suc s)
    in_use = omega (arith, kind-inode v bytes count whole s)

    allowed_size : size v bytes (suc s) ≤ greatest_length v
    allowed_size = omega (arith, size-inode v bytes count whole s)

    abbrev b : ℕ
    b = (size v bytes (suc s) + 511) / 512

    pub row_is : owned_count v bs s ≡ b + (b + 245) / 256
    row_is = omega (arith, owned_count-used v bs s used, wanted-is (size_at v bs s), size-inode v bytes count whole s)

    length_content : length (used_content v bytes (suc s)) ≡ b
    length_content = length-used_content v bytes count whole s allowed_size

    length_index : length (used_index v bytes (suc s)) ≡ (b + 245) / 256
    length_index = length-used_index v bytes count whole s allowed_size

    pub length-used_by : length (used_by v bytes (suc s)) ≡ owned_count v bs s
    length-used_by = ap length (used_by-used (suc s) in_use) ∙ length-append (used_content v bytes (suc s)) (used_index v bytes (suc s)) ∙ omega (arith, length_content, length_index, row_is)

    -- the list has the blocks of the sequence
    pub get_or-used_by : (i : ℕ) → i < owned_count v bs s → get_or (used_by v bytes (suc s)) (listed_at b i) 0 ≡ owned_at v bs s i
    get_or-used_by i within =
        ap (λ (xs : List ℕ). get_or xs (listed_at b i) 0) (used_by-used (suc s) in_use)
        ∙ elim (cases_eq ((i + 247) % 257) 0) [ inl index ↦ of_index index | inr other ↦ of_content other ]
      where
        of_index : (i + 247) % 257 ≡ 0 → get_or (used_content v bytes (suc s) ++ used_index v bytes (suc s)) (listed_at b i) 0 ≡ owned_at v bs s i
        of_index index =
            let place = listed-index b i index in
            let following : b + (i - 10) / 257 - b ≡ (i - 10) / 257 = omega arith in
            let itself : after_index i ≡ 0 = omega arith in
            let pointer : pointer_of i ≡ 10 + (i - 10) / 257 = pointer_of-index_block i index in
            ap (λ k. get_or (used_content v bytes (suc s) ++ used_index v bytes (suc s)) k 0) place
            ∙ get_or-append_right (used_content v bytes (suc s)) (used_index v bytes (suc s)) b (b + (i - 10) / 257) 0 length_content (omega arith)
            ∙ ap (λ k. get_or (used_index v bytes (suc s)) k 0) following
            ∙ get_or-used_index v bytes count whole s allowed_size ((i - 10) / 257) (omega (arith, row_is))
            ∙ sym (owned_at-direct v bs s i itself ∙ ap (pointer_at v bs s) pointer)

        of_content : (i + 247) % 257 ≢ 0 → get_or (used_content v bytes (suc s) ++ used_index v bytes (suc s)) (listed_at b i) 0 ≡ owned_at v bs s i
        of_content other =
            let less : i - (i + 246) / 257 < b = omega (arith, row_is) in
            let back : position_of_block (i - (i + 246) / 257) ≡ i = omega (arith, position_of_block-is (i - (i + 246) / 257)) in
            ap (λ k. get_or (used_content v bytes (suc s) ++ used_index v bytes (suc s)) k 0) (listed-content b i other)
            ∙ get_or_append_left (used_content v bytes (suc s)) (used_index v bytes (suc s)) 0 (i - (i + 246) / 257) (omega (arith, length_content))
            ∙ get_or-used_content v bytes count whole s allowed_size (i - (i + 246) / 257) less
            ∙ ap (owned_at v bs s) back

-- ---- the blocks that inodes can own

-- the inodes have valid kinds and sizes, each block that one of them will own is a data block, and no two of these are
-- the same
pub record MayOwn (v : Version) (bs : List Bytes) (inodes first : ℕ) : Type 0 where
  pub kinds : (s : ℕ) → s < inodes → kind_at v bs s ≤ 4
  pub sizes : (s : ℕ) → s < inodes → 0 < kind_at v bs s → size_at v bs s ≤ greatest_length v
  pub few : (s : ℕ) → s < inodes → owned_count v bs s ≤ most_owned v
  pub from : (s i : ℕ) → s < inodes → i < owned_count v bs s → first ≤ owned_at v bs s i
  pub within : (s i : ℕ) → s < inodes → i < owned_count v bs s → owned_at v bs s i < length bs
  pub apart : (s i t j : ℕ) → s < inodes → i < owned_count v bs s → t < inodes → j < owned_count v bs t → owned_at v bs s i ≡ owned_at v bs t j → (s ≡ t) × (i ≡ j)

module _ (v : Version) (bytes : Bytes) (count inodes : ℕ) (whole : length bytes ≡ 512 * count) (are : AreInodes v bytes inodes) where
  abbrev cs : List Bytes
  cs = blocks_in_bytes count bytes

  kinds : (s : ℕ) → s < inodes → kind_at v cs s ≤ 4
  kinds s below = omega (arith, kind-inode v bytes count whole s, are.kinds (suc s) (omega arith) (omega arith))

  sizes : (s : ℕ) → s < inodes → 0 < kind_at v cs s → size_at v cs s ≤ greatest_length v
  sizes s below used =
      omega (arith, size-inode v bytes count whole s, are.sizes (suc s) (omega arith) (omega arith) (omega (arith, kind-inode v bytes count whole s)))

  -- an inode that owns a block is in use
  owner_used : (s i : ℕ) → i < owned_count v cs s → 0 < kind_at v cs s
  owner_used s i owned = elim (cases_eq (kind_at v cs s) 0) [
    | inl free ↦ absurd (omega (arith, owned_count-free v cs s free))
    | inr used ↦ omega arith
  ]

  -- the position of a block of the sequence in the list
  record IsListed (s i : ℕ) : Type 0 where
    place : ℕ
    within : place < length (used_by v bytes (1 + s))
    is : get_or (used_by v bytes (1 + s)) place 0 ≡ owned_at v cs s i
    place_is : place ≡ listed_at ((size v bytes (suc s) + 511) / 512) i
    row : owned_count v cs s ≡ (size v bytes (suc s) + 511) / 512 + ((size v bytes (suc s) + 511) / 512 + 245) / 256

  listed : (s i : ℕ) → s < inodes → i < owned_count v cs s → IsListed s i
  listed s i below owned =
      let used = owner_used s i owned in
      let allowed = sizes s below used in
      let number : suc s ≡ 1 + s = omega arith in
      let row = row_is v bytes count whole s used allowed in
      let fits = listed-within ((size v bytes (suc s) + 511) / 512) i (omega arith) in
      record {
        place = listed_at ((size v bytes (suc s) + 511) / 512) i;
        within = rw (sym number) (omega (arith, length-used_by v bytes count whole s used allowed));
        is = rw (sym number) (get_or-used_by v bytes count whole s used allowed i owned);
        place_is = refl;
        row = row;
      }

  in_data : (s i : ℕ) → s < inodes → i < owned_count v cs s → (inode_blocks v inodes < owned_at v cs s i) × (owned_at v cs s i < length bytes / 512)
  in_data s i below owned =
      let at = listed s i below owned in
      subst (λ k. (inode_blocks v inodes < k) × (k < length bytes / 512)) at.is
      (all_components (used_by v bytes) 1 inodes (λ k. (inode_blocks v inodes < k) × (k < length bytes / 512)) are.in_data s at.place below at.within)

  apart : (s i t j : ℕ) → s < inodes → i < owned_count v cs s → t < inodes → j < owned_count v cs t → owned_at v cs s i ≡ owned_at v cs t j → (s ≡ t) × (i ≡ j)
  apart s i t j below_s owned_s below_t owned_t same =
      let at_s = listed s i below_s owned_s in
      let at_t = listed t j below_t owned_t in
      let once = one_component (used_by v bytes) 1 inodes are.used_once s at_s.place t at_t.place below_s at_s.within below_t at_t.within (at_s.is ∙ same ∙ sym at_t.is) in
      let sizes_same : (size v bytes (suc s) + 511) / 512 ≡ (size v bytes (suc t) + 511) / 512 = ap (λ n. (size v bytes (suc n) + 511) / 512) once.0 in
      let counts_same : owned_count v cs s ≡ owned_count v cs t = ap (owned_count v cs) once.0 in
      let places : listed_at ((size v bytes (suc s) + 511) / 512) i ≡ listed_at ((size v bytes (suc s) + 511) / 512) j =
      sym at_s.place_is ∙ once.1 ∙ at_t.place_is ∙ ap (λ b. listed_at b j) (sym sizes_same) in
      (once.0, listed-once ((size v bytes (suc s) + 511) / 512) i j (omega (arith, at_s.row)) (omega (arith, at_s.row)) places)

  pub may_own : MayOwn v cs inodes (first_data v inodes)
  may_own = record {
    kinds = kinds;
    sizes = sizes;
    few = λ s below. elim (cases_eq (kind_at v cs s) 0) [
      | inl free ↦ omega (arith, owned_count-free v cs s free)
      | inr used ↦ let some : 0 < kind_at v cs s = omega arith in omega (arith, owned_count-used v cs s some, wanted-most v (size_at v cs s) (sizes s below some))
    ];
    from = λ s i below owned. omega (arith, (in_data s i below owned).0, first_data-is v inodes);
    within = λ s i below owned. omega (arith, (in_data s i below owned).1, length-blocks_in_bytes count bytes);
    apart = apart;
  }
