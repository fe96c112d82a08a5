-- The bytes of an image and its blocks: numbers, the blocks that inodes use, and contents.
use Rattle.std.proofs.Common.{◌≡◌, ℕ, zero, suc, ◌+◌, ◌*◌, ◌-◌, ◌/◌, ◌%◌, ◌<◌, ◌≤◌, ◌≢◌, List, [], ◌∷◌, ◌++◌, length, get_or, take, drop, refl, sym, ap, ◌∙◌, inl, inr, arith}
use Rattle.std.specs.List.{flat_map}
use Rattle.std.proofs.lemmas.Bool.{cases_lt}
use Rattle.std.proofs.lemmas.List.{length-append, length-take-le, get_or-take, get_or_past, get_or_append_left, get_or-append_right, drop_all}
use Rattle.byteorder.specs.Endian.{little_from}
use Rattle.byteorder.specs.Numbers.{little_from-cons, little_from-take}
use Rattle.pv_model.specs.declared.version.Version.{Version}
use Rattle.pv_model.specs.declared.version.Version.TheVariants.{V1, V2}
use Rattle.pv_model.specs.Machine.{Bytes, number_of, field, block, inode, inode_length, index_pointers, size, block_count, used_index, used_content, content, kind, greatest_length}
use Rattle.pv_model.specs.Image.{pointers}
use Rattle.pv_blocks.specs.BlockStore.{blocks_in_bytes}
use Rattle.pv_blocks.proofs.BlockStores.{length-block, length-blocks_in_bytes, get_or-blocks_in_bytes}
use Rattle.pv_inodes.specs.Layout.{block_at, number, home, offset, kind_at, size_at, pointer_at, pointer_count, owned_at, content_at, pointer_of, after_index, position_of_block}
use Rattle.pv_inodes.proofs.InodeContents.{content_at-is, content_byte-is}
use Rattle.pv_inodes.proofs.InodeFields.{owned_at-direct, owned_at-entry}
use Rattle.pv_inodes.proofs.InodeLayouts.{greatest_length-is, inode-fits, pointers-fit, pointer_of-first, after_index-first, pointer_of-past, after_index-past}
use Rattle.pv_inodes.proofs.BlockNumbers.{little_from-drop}

-- ---- numbers

little_from-none : (i n : ℕ) → little_from i n [] ≡ 0
little_from-none i zero = refl
little_from-none i (suc n) = omega (arith, little_from-none (suc i) n)

number_of-little : (n : ℕ) (xs : Bytes) → number_of (take n xs) ≡ little_from 0 n xs
number_of-little zero xs = refl
number_of-little (suc n) [] = sym (little_from-none 0 (suc n))
number_of-little (suc n) (x ∷ xs) = ap (λ k. x + 256 * k) (number_of-little n xs ∙ sym (little_from-cons 0 n x xs))

-- a field is the little-endian number at its offset
pub field-little : (bytes : Bytes) (at n : ℕ) → field bytes at n ≡ little_from at n bytes
field-little bytes at n =
    let place : at + 0 ≡ at = omega arith in
    number_of-little n (drop at bytes) ∙ little_from-drop at 0 n bytes ∙ ap (λ i. little_from i n bytes) place

-- a field of a part is a field of the whole
pub field-part : (bytes : Bytes) (from long at n : ℕ) → at + n ≤ long → field (take long (drop from bytes)) at n ≡ field bytes (from + at) n
field-part bytes from long at n fits =
    field-little (take long (drop from bytes)) at n
    ∙ little_from-take at n long (drop from bytes) fits
    ∙ little_from-drop from at n bytes
    ∙ sym (field-little bytes (from + at) n)

pub field-following : (bytes : Bytes) (from at n : ℕ) → field (drop from bytes) at n ≡ field bytes (from + at) n
field-following bytes from at n = field-little (drop from bytes) at n ∙ little_from-drop from at n bytes ∙ sym (field-little bytes (from + at) n)

-- ---- pointers

pub length-pointers : (n : ℕ) (bytes : Bytes) → length (pointers n bytes) ≡ n
length-pointers zero bytes = refl
length-pointers (suc n) bytes = omega (arith, length-pointers n (drop 2 bytes))

pub get_or-pointers : (n : ℕ) (bytes : Bytes) (j : ℕ) → j < n → get_or (pointers n bytes) j 0 ≡ field bytes (2 * j) 2
get_or-pointers zero bytes j within = absurd (omega arith)
get_or-pointers (suc n) bytes zero within = refl
get_or-pointers (suc n) bytes (suc j) within =
    let place : 2 + 2 * j ≡ 2 * suc j = omega arith in
    get_or-pointers n (drop 2 bytes) j (omega arith) ∙ field-following bytes 2 (2 * j) 2 ∙ ap (λ at. field bytes at 2) place

-- ---- parts of equal length

module _ {X A : Type 0} (f : X → List A) (w : ℕ) (e : X) where
  -- each part has this length
  abbrev pub AreLong : List X → Type 0
  AreLong xs = (i : ℕ) → i < length xs → length (f (get_or xs i e)) ≡ w

  after_long : (x : X) (xs : List X) → AreLong (x ∷ xs) → AreLong xs
  after_long x xs long i within = long (suc i) (omega arith)

  pub length-components : (xs : List X) → AreLong xs → length (flat_map f xs) ≡ w * length xs
  length-components [] long = omega arith
  length-components (x ∷ xs) long =
      let here : length (f x) ≡ w = long 0 (omega arith) in
      let following = length-components xs (after_long x xs long) in
      let more : w + w * length xs ≡ w * suc (length xs) = omega arith in
      length-append (f x) (flat_map f xs) ∙ ap (λ n. n + length (flat_map f xs)) here ∙ ap (λ n. w + n) following ∙ more

  pub get_or-components : (xs : List X) → AreLong xs → (q r : ℕ) (d : A) → q < length xs → r < w → get_or (flat_map f xs) (w * q + r) d ≡ get_or (f (get_or xs q e)) r d
  get_or-components [] long q r d within below = absurd (omega arith)
  get_or-components (x ∷ xs) long zero r d within below =
      let here : length (f x) ≡ w = long 0 (omega arith) in
      let place : w * 0 + r ≡ r = omega arith in
      ap (λ k. get_or (f x ++ flat_map f xs) k d) place ∙ get_or_append_left (f x) (flat_map f xs) d r (omega arith)
  get_or-components (x ∷ xs) long (suc q) r d within below =
      let here : length (f x) ≡ w = long 0 (omega arith) in
      let next : w * suc q ≡ w + w * q = omega arith in
      let place : w * suc q + r - w ≡ w * q + r = omega arith in
      get_or-append_right (f x) (flat_map f xs) w (w * suc q + r) d here (omega arith)
      ∙ ap (λ k. get_or (flat_map f xs) k d) place
      ∙ get_or-components xs (after_long x xs long) q r d (omega arith) below

-- ---- blocks

module _ (v : Version) (bytes : Bytes) (count : ℕ) (whole : length bytes ≡ 512 * count) where
  abbrev bs : List Bytes
  bs = blocks_in_bytes count bytes

  pub block_at-image : (k : ℕ) → block_at bs k ≡ block bytes k
  block_at-image k = elim (cases_lt k count) [
    | inl within ↦ get_or-blocks_in_bytes count bytes k [] within
    | inr past ↦
        get_or_past bs k [] (omega (arith, length-blocks_in_bytes count bytes))
        ∙ sym (ap (take 512) (drop_all (512 * k) bytes (omega arith)))
  ]

  pub number-image : (k at n : ℕ) → at + n ≤ 512 → number bs k at n ≡ field bytes (512 * k + at) n
  unfolding number
  number-image k at n fits =
      ap (little_from at n) (block_at-image k) ∙ sym (field-little (block bytes k) at n) ∙ field-part bytes (512 * k) 512 at n fits

  -- ---- the fields of an inode

  home_offset : (s : ℕ) → 512 * home v s + offset v s ≡ 512 + inode_length v * s
  unfolding home offset
  home_offset s = elim v as (λ version. 512 * home version s + offset version s ≡ 512 + inode_length version * s) [
    | V1 ↦ omega arith
    | V2 ↦ omega arith
  ]

  -- a field of an inode is in the block of the inode
  pub field-inode : (s at n : ℕ) → at + n ≤ inode_length v → field (inode v bytes (suc s)) at n ≡ number bs (home v s) (offset v s + at) n
  field-inode s at n fits =
      let inside = inode-fits v s in
      let slot : suc s - 1 ≡ s = omega arith in
      let place : 512 + inode_length v * (suc s - 1) + at ≡ 512 * home v s + (offset v s + at) = omega (arith, home_offset s, ap (λ k. inode_length v * k) slot) in
      field-part bytes (512 + inode_length v * (suc s - 1)) (inode_length v) at n fits
      ∙ ap (λ k. field bytes k n) place
      ∙ sym (number-image (home v s) (offset v s + at) n (omega arith))

  pub kind-inode : (s : ℕ) → kind v bytes (suc s) ≡ kind_at v bs s
  unfolding kind_at
  kind-inode s =
      let place : offset v s + 0 ≡ offset v s = omega arith in
      field-inode s 0 1 (omega (arith, pointers-fit v)) ∙ ap (λ at. number bs (home v s) at 1) place

  pub size-inode : (s : ℕ) → size v bytes (suc s) ≡ size_at v bs s
  unfolding size_at
  size-inode s = field-inode s 4 4 (omega (arith, pointers-fit v))

  pub pointer-inode : (s p : ℕ) → p < pointer_count v → field (inode v bytes (suc s)) (8 + 2 * p) 2 ≡ pointer_at v bs s p
  unfolding pointer_at
  pointer-inode s p within =
      let place : offset v s + (8 + 2 * p) ≡ offset v s + 8 + 2 * p = omega arith in
      field-inode s (8 + 2 * p) 2 (omega (arith, pointers-fit v)) ∙ ap (λ at. number bs (home v s) at 2) place

  -- ---- the blocks that an inode uses

  module _ (s : ℕ) (allowed : size v bytes (suc s) ≤ greatest_length v) where
    abbrev b : ℕ
    b = block_count v bytes (suc s)

    -- the number of its index blocks
    abbrev q : ℕ
    q = (b + 245) / 256

    b_is : b ≡ (size v bytes (suc s) + 511) / 512
    b_is = refl

    q_is : (b - 10 + 255) / 256 ≡ q
    q_is = omega arith

    q_few : q ≤ index_pointers v
    q_few = omega (arith, greatest_length-is v, b_is)

    pub length-used_index : length (used_index v bytes (suc s)) ≡ q
    length-used_index =
        let all = length-pointers (index_pointers v) (drop 28 (inode v bytes (suc s))) in
        length-take-le ((b - 10 + 255) / 256) (pointers (index_pointers v) (drop 28 (inode v bytes (suc s)))) (omega (arith, q_is, q_few, all)) ∙ q_is

    pub get_or-used_index : (k : ℕ) → k < q → get_or (used_index v bytes (suc s)) k 0 ≡ pointer_at v bs s (10 + k)
    get_or-used_index k within =
        let place : 28 + 2 * k ≡ 8 + 2 * (10 + k) = omega arith in
        get_or-take ((b - 10 + 255) / 256) (pointers (index_pointers v) (drop 28 (inode v bytes (suc s)))) k 0 (omega (arith, q_is))
        ∙ get_or-pointers (index_pointers v) (drop 28 (inode v bytes (suc s))) k (omega (arith, q_few))
        ∙ field-following (inode v bytes (suc s)) 28 (2 * k) 2
        ∙ ap (λ at. field (inode v bytes (suc s)) at 2) place
        ∙ pointer-inode s (10 + k) (omega (arith, q_few))

    abbrev after_index_blocks : List ℕ
    after_index_blocks = flat_map (λ k. pointers 256 (block bytes k)) (used_index v bytes (suc s))

    each_long : AreLong (λ k. pointers 256 (block bytes k)) 256 0 (used_index v bytes (suc s))
    each_long i within = length-pointers 256 (block bytes (get_or (used_index v bytes (suc s)) i 0))

    first_ten : length (pointers 10 (drop 8 (inode v bytes (suc s)))) ≡ 10
    first_ten = length-pointers 10 (drop 8 (inode v bytes (suc s)))

    pub length-used_content : length (used_content v bytes (suc s)) ≡ b
    length-used_content =
        let following = length-components (λ k. pointers 256 (block bytes k)) 256 0 (used_index v bytes (suc s)) each_long in
        length-take-le b (pointers 10 (drop 8 (inode v bytes (suc s))) ++ after_index_blocks)
        (omega (arith, length-append (pointers 10 (drop 8 (inode v bytes (suc s)))) after_index_blocks, first_ten, following, length-used_index))

    -- the blocks of its contents are in the sequence after their index blocks
    pub get_or-used_content : (j : ℕ) → j < b → get_or (used_content v bytes (suc s)) j 0 ≡ owned_at v bs s (position_of_block j)
    get_or-used_content j within =
        get_or-take b (pointers 10 (drop 8 (inode v bytes (suc s))) ++ after_index_blocks) j 0 within
        ∙ elim (cases_lt j 10) [ inl first ↦ direct first | inr past ↦ following past ]
      where
        direct : j < 10 → get_or (pointers 10 (drop 8 (inode v bytes (suc s))) ++ after_index_blocks) j 0 ≡ owned_at v bs s (position_of_block j)
        direct first =
            get_or_append_left (pointers 10 (drop 8 (inode v bytes (suc s)))) after_index_blocks 0 j (omega (arith, first_ten))
            ∙ get_or-pointers 10 (drop 8 (inode v bytes (suc s))) j first
            ∙ field-following (inode v bytes (suc s)) 8 (2 * j) 2
            ∙ pointer-inode s j (omega arith)
            ∙ sym (owned_at-direct v bs s (position_of_block j) (after_index-first j first) ∙ ap (pointer_at v bs s) (pointer_of-first j first))

        following : 10 ≤ j → get_or (pointers 10 (drop 8 (inode v bytes (suc s))) ++ after_index_blocks) j 0 ≡ owned_at v bs s (position_of_block j)
        following past =
            let at : 256 * ((j - 10) / 256) + (j - 10) % 256 ≡ j - 10 = omega arith in
            let less : (j - 10) / 256 < q = omega arith in
            let entry : 2 * ((j - 10) % 256) ≡ 2 * (after_index (position_of_block j) - 1) = omega (arith, after_index-past j past) in
            let some : after_index (position_of_block j) ≢ 0 = λ none. omega (arith, after_index-past j past) in
            let index : get_or (used_index v bytes (suc s)) ((j - 10) / 256) 0 ≡ pointer_at v bs s (pointer_of (position_of_block j)) =
            get_or-used_index ((j - 10) / 256) less ∙ ap (pointer_at v bs s) (sym (pointer_of-past j past)) in
            get_or-append_right (pointers 10 (drop 8 (inode v bytes (suc s)))) after_index_blocks 10 j 0 first_ten past
            ∙ ap (λ k. get_or after_index_blocks k 0) (sym at)
            ∙ get_or-components (λ k. pointers 256 (block bytes k)) 256 0 (used_index v bytes (suc s)) each_long ((j - 10) / 256) ((j - 10) % 256) 0 (omega (arith, length-used_index)) (omega arith)
            ∙ get_or-pointers 256 (block bytes (get_or (used_index v bytes (suc s)) ((j - 10) / 256) 0)) ((j - 10) % 256) (omega arith)
            ∙ ap (λ k. field (block bytes k) (2 * ((j - 10) % 256)) 2) index
            ∙ field-part bytes (512 * pointer_at v bs s (pointer_of (position_of_block j))) 512 (2 * ((j - 10) % 256)) 2 (omega arith)
            ∙ sym (number-image (pointer_at v bs s (pointer_of (position_of_block j))) (2 * ((j - 10) % 256)) 2 (omega arith))
            ∙ ap (λ k. number bs (pointer_at v bs s (pointer_of (position_of_block j))) k 2) entry
            ∙ sym (owned_at-entry v bs s (position_of_block j) some)

    -- ---- the contents

    -- they are those of the sequence, if its blocks are within the image
    pub content-inode : ((j : ℕ) → j < b → owned_at v bs s (position_of_block j) < count) → content_at v bs s ≡ content v bytes (suc s)
    content-inode within =
        let long : AreLong (block bytes) 512 0 (used_content v bytes (suc s)) = λ i below. length-block bytes (get_or (used_content v bytes (suc s)) i 0)
        (let less : i < b = omega (arith, length-used_content) in
        let in_count = within i less in
        let is = get_or-used_content i less in omega arith) in
        let size_is = size-inode s in
        let components = length-components (block bytes) 512 0 (used_content v bytes (suc s)) long in
        content_at-is v bs s (content v bytes (suc s))
        (length-take-le (size v bytes (suc s)) (flat_map (block bytes) (used_content v bytes (suc s))) (omega (arith, components, length-used_content)) ∙ size_is)
        (λ x below.
        let split : 512 * (x / 512) + x % 512 ≡ x = omega arith in
        let less : x / 512 < b = omega arith in
        get_or-take (size v bytes (suc s)) (flat_map (block bytes) (used_content v bytes (suc s))) x 0 (omega arith)
        ∙ ap (λ k. get_or (flat_map (block bytes) (used_content v bytes (suc s))) k 0) (sym split)
        ∙ get_or-components (block bytes) 512 0 (used_content v bytes (suc s)) long (x / 512) (x % 512) 0 (omega (arith, length-used_content)) (omega arith)
        ∙ ap (λ k. get_or (block bytes k) (x % 512) 0) (get_or-used_content (x / 512) less)
        ∙ ap (λ (xs : Bytes). get_or xs (x % 512) 0) (sym (block_at-image (owned_at v bs s (position_of_block (x / 512)))))
        ∙ sym (content_byte-is v bs s x))
