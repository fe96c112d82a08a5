-- Reading an inode that is written.
use Rattle.std.proofs.Common.{◌≡◌, ℕ, ◌+◌, ◌-◌, ◌*◌, ◌<◌, ◌≤◌, List, ◌∷◌, ◌++◌, length, take, drop, replicate, refl, ap, sym, ◌∙◌, arith}
use Rattle.std.specs.List.{range_with_len}
use Rattle.std.proofs.lemmas.List.{append_assoc, length-append, drop-drop}
use Rattle.std.proofs.lemmas.List.FromFn.{length-range_with_len}
use Rattle.pv_model.specs.declared.version.Version.{Version}
use Rattle.pv_model.specs.declared.version.Version.TheVariants.{V1, V2}
use Rattle.pv_model.specs.Machine.{Bytes, little_endian, number_of, field, inode_length, index_pointers, greatest_length}
use Rattle.pv_model.specs.Image.{pointers, stored_count}
use Rattle.pv_image_write.specs.Encoding.{padded, encoded_numbers, blocks_for, index_for, direct_for, before_size, after_pointers, inode_bytes}
use Rattle.pv_image_write.specs.Writable.{names_end}
use Rattle.pv_image_write.proofs.PartConcatenation.{front-is, past-is, length-padded}
use Rattle.pv_image_write.proofs.NumberRanges.{two-bytes, four-bytes, length-encoded_row, pointers-encoded_numbers, pointers-add}
use Rattle.pv_laws_trees.proofs.ImageBytes.{length-little_endian}

-- contents within the maximum length need no more index blocks than an inode has pointers to
pub index-few : (v : Version) (size : ℕ) → size ≤ greatest_length v → index_for size ≤ index_pointers v
index-few V1 size short = omega arith
index-few V2 size short = omega arith

pub size-small : (v : Version) (size : ℕ) → size ≤ greatest_length v → size < 4294967296
size-small V1 size short = omega arith
size-small V2 size short = omega arith

-- pointers start with a sequence that is encoded there
pub row-read : (a m n : ℕ) (rest : Bytes) → m ≤ n → a + m ≤ 65536 → (more : List ℕ) × (pointers n (encoded_numbers (range_with_len a m) ++ rest) ≡ range_with_len a m ++ more)
row-read a m n rest few small =
    let bytes = encoded_numbers (range_with_len a m) ++ rest in
    let all : n ≡ m + (n - m) = omega arith in
    let more = pointers (n - m) (drop (2 * m) bytes) in
    (more, ap (λ k. pointers k bytes) all ∙ pointers-add m (n - m) bytes ∙ ap (λ (ks : List ℕ). ks ++ more) (pointers-encoded_numbers a m rest small))

pub row-taken : (a m n : ℕ) (rest : Bytes) → m ≤ n → a + m ≤ 65536 → take m (pointers n (encoded_numbers (range_with_len a m) ++ rest)) ≡ range_with_len a m
row-taken a m n rest few small =
    let found = row-read a m n rest few small in
    ap (take m) found.1 ∙ front-is m (range_with_len a m) found.0 (length-range_with_len a m)

module _ (v : Version) (sort count size k : ℕ) (short : size ≤ greatest_length v) where
  direct_row : Bytes
  direct_row = padded 20 (encoded_numbers (range_with_len k (direct_for size)))

  index_row : Bytes
  index_row = padded (2 * index_pointers v) (encoded_numbers (range_with_len (k + blocks_for size) (index_for size)))

  after_size : Bytes
  after_size = direct_row ++ (index_row ++ after_pointers v count)

  length-direct : length direct_row ≡ 20
  unfolding direct_row
  length-direct = length-padded 20 (encoded_numbers (range_with_len k (direct_for size))) (omega (arith, length-encoded_row k (direct_for size)))

  length-index : length index_row ≡ 2 * index_pointers v
  unfolding index_row
  length-index =
      length-padded (2 * index_pointers v) (encoded_numbers (range_with_len (k + blocks_for size) (index_for size)))
      (omega (arith, length-encoded_row (k + blocks_for size) (index_for size), index-few v size short))

  encoded_numbers-inode : inode_bytes v sort count size k ≡ (sort ∷ 0 ∷ before_size v count) ++ (little_endian 4 size ++ after_size)
  unfolding inode_bytes after_size direct_row index_row
  encoded_numbers-inode = refl

  length-front : (w : Version) → length (sort ∷ 0 ∷ before_size w count) ≡ 4
  length-front V1 = refl
  length-front V2 = refl

  pub length-tail : (w : Version) → 4 + (4 + (20 + (2 * index_pointers w + length (after_pointers w count)))) ≡ inode_length w
  length-tail V1 = refl
  length-tail V2 = refl

  pub length-inode_bytes : length (inode_bytes v sort count size k) ≡ inode_length v
  unfolding after_size
  length-inode_bytes =
      let whole = ap length encoded_numbers-inode ∙ length-append (sort ∷ 0 ∷ before_size v count) (little_endian 4 size ++ after_size) in
      omega (
        arith,
        whole,
        length-front v,
        length-append (little_endian 4 size) after_size,
        length-little_endian 4 size,
        length-append direct_row (index_row ++ after_pointers v count),
        length-append index_row (after_pointers v count),
        length-direct,
        length-index,
        length-tail v,
      )

  pub kind-inode : field (inode_bytes v sort count size k) 0 1 ≡ sort
  unfolding inode_bytes
  kind-inode = omega arith

  following-four : drop 4 (inode_bytes v sort count size k) ≡ little_endian 4 size ++ after_size
  following-four = ap (drop 4) encoded_numbers-inode ∙ past-is 4 (sort ∷ 0 ∷ before_size v count) (little_endian 4 size ++ after_size) (length-front v)

  pub size-inode : field (inode_bytes v sort count size k) 4 4 ≡ size
  size-inode =
      ap (λ (xs : Bytes). number_of (take 4 xs)) following-four
      ∙ ap number_of (front-is 4 (little_endian 4 size) after_size (length-little_endian 4 size))
      ∙ four-bytes size (size-small v size short)

  following-eight : drop 8 (inode_bytes v sort count size k) ≡ after_size
  following-eight =
      sym (drop-drop 4 4 (inode_bytes v sort count size k)) ∙ ap (drop 4) following-four
      ∙ past-is 4 (little_endian 4 size) after_size (length-little_endian 4 size)

  following-direct : drop 28 (inode_bytes v sort count size k) ≡ index_row ++ after_pointers v count
  unfolding after_size
  following-direct =
      sym (drop-drop 20 8 (inode_bytes v sort count size k)) ∙ ap (drop 20) following-eight
      ∙ past-is 20 direct_row (index_row ++ after_pointers v count) length-direct

  -- the pointers to blocks of contents start with those in use
  pub direct-inode : (rest : Bytes) × (drop 8 (inode_bytes v sort count size k) ≡ encoded_numbers (range_with_len k (direct_for size)) ++ rest)
  unfolding after_size direct_row padded
  direct-inode =
      let row = encoded_numbers (range_with_len k (direct_for size)) in
      let zeros = replicate (20 - length row) 0 in
      (zeros ++ (index_row ++ after_pointers v count), following-eight ∙ append_assoc row zeros (index_row ++ after_pointers v count))

  -- the pointers to index blocks start with those in use too
  pub index-inode : (rest : Bytes) × (drop 28 (inode_bytes v sort count size k) ≡ encoded_numbers (range_with_len (k + blocks_for size) (index_for size)) ++ rest)
  unfolding index_row padded
  index-inode =
      let row = encoded_numbers (range_with_len (k + blocks_for size) (index_for size)) in
      let zeros = replicate (2 * index_pointers v - length row) 0 in
      (zeros ++ after_pointers v count, following-direct ∙ append_assoc row zeros (after_pointers v count))

-- the number of names
following-index_2 : (sort count size k : ℕ) → size ≤ greatest_length V2 → drop 38 (inode_bytes V2 sort count size k) ≡ little_endian 4 count ++ replicate 22 0
following-index_2 sort count size k short =
    sym (drop-drop 10 28 (inode_bytes V2 sort count size k)) ∙ ap (drop 10) (following-direct V2 sort count size k short)
    ∙ past-is 10 (index_row V2 sort count size k short) (little_endian 4 count ++ replicate 22 0) (length-index V2 sort count size k short)

pub count-inode : (v : Version) (sort count size k : ℕ) → size ≤ greatest_length v → count < names_end v → stored_count v (inode_bytes v sort count size k) ≡ count
unfolding inode_bytes
count-inode V1 sort count size k short small = two-bytes count small
count-inode V2 sort count size k short small =
    ap (λ (xs : Bytes). number_of (take 4 xs)) (following-index_2 sort count size k short)
    ∙ ap number_of (front-is 4 (little_endian 4 count) (replicate 22 0) (length-little_endian 4 count))
    ∙ four-bytes count small
