-- Reading an inode and its blocks as they are written.
use Rattle.std.proofs.Common.{◌≡◌, ℕ, zero, suc, ◌+◌, ◌-◌, ◌*◌, ◌<◌, ◌≤◌, min, List, [], ◌∷◌, ◌++◌, length, take, drop, replicate, refl, ap, sym, subst, ◌∙◌, inl, inr, arith}
use Rattle.std.specs.Prelude.{flat_map}
use Rattle.std.specs.List.{range_with_len}
use Rattle.std.proofs.lemmas.Bool.{cases_lt}
use Rattle.std.proofs.lemmas.List.{append_assoc, length-append, drop-drop, take-take}
use Rattle.std.proofs.lemmas.List.FromFn.{length-range_with_len}
use Rattle.pv_model.specs.declared.version.Version.{Version}
use Rattle.pv_model.specs.Machine.{Bytes, block, index_pointers, inode, size, block_count, used_index, used_content, content, greatest_length}
use Rattle.pv_model.specs.Image.{pointers}
use Rattle.pv_image_write.specs.Encoding.{padded, encoded_numbers, blocks_for, index_for, direct_for, taken, content_blocks, inode_bytes}
use Rattle.pv_image_write.proofs.InodeReads.{index-few, row-read, row-taken, size-inode, direct-inode, index-inode}
use Rattle.pv_image_write.proofs.PartConcatenation.{front-is, past-is, length-padded}
use Rattle.pv_image_write.proofs.NumberRanges.{range_with_len-add, length-encoded_row, pointers-encoded_numbers, blocks-row, pointers-row}

-- the index blocks of some contents
pub index_part : ℕ → Bytes → Bytes
index_part k c =
    padded (512 * index_for (length c)) (encoded_numbers (range_with_len (k + direct_for (length c)) (blocks_for (length c) - direct_for (length c))))

pub content_blocks-is : (k : ℕ) (c : Bytes) → content_blocks k c ≡ padded (512 * blocks_for (length c)) c ++ index_part k c
unfolding content_blocks index_part
content_blocks-is k c = refl

pub length-content_part : (c : Bytes) → length (padded (512 * blocks_for (length c)) c) ≡ 512 * blocks_for (length c)
length-content_part c = length-padded (512 * blocks_for (length c)) c (omega arith)

pub length-index_part : (k : ℕ) (c : Bytes) → length (index_part k c) ≡ 512 * index_for (length c)
unfolding index_part
length-index_part k c =
    let size = length c in
    length-padded (512 * index_for size) (encoded_numbers (range_with_len (k + direct_for size) (blocks_for size - direct_for size)))
    (omega (arith, length-encoded_row (k + direct_for size) (blocks_for size - direct_for size)))

pub length-content_blocks : (k : ℕ) (c : Bytes) → length (content_blocks k c) ≡ 512 * taken (length c)
length-content_blocks k c =
    omega (arith, ap length (content_blocks-is k c), length-append (padded (512 * blocks_for (length c)) c) (index_part k c), length-content_part c, length-index_part k c)

module _ (v : Version) (bytes : Bytes) (n sort count k : ℕ) (c more : Bytes)
    (short : length c ≤ greatest_length v)
    (small : k + taken (length c) ≤ 65536)
    (here : inode v bytes n ≡ inode_bytes v sort count (length c) k)
    (there : drop (512 * k) bytes ≡ content_blocks k c ++ more) where
  long : ℕ
  long = length c

  pub size-read : size v bytes n ≡ length c
  size-read = ap (λ (xs : Bytes). Rattle.pv_model.specs.Image.field xs 4 4) here ∙ size-inode v sort count (length c) k short

  pub used_index-read : used_index v bytes n ≡ range_with_len (k + blocks_for (length c)) (index_for (length c))
  used_index-read =
      let found = index-inode v sort count (length c) k short in
      ap (λ s. take (index_for s) (pointers (index_pointers v) (drop 28 (inode v bytes n)))) size-read
      ∙ ap (λ (xs : Bytes). take (index_for (length c)) (pointers (index_pointers v) xs)) (ap (drop 28) here ∙ found.1)
      ∙ row-taken (k + blocks_for (length c)) (index_for (length c)) (index_pointers v) found.0 (index-few v (length c) short) (omega arith)

  following-content : drop (512 * (k + blocks_for (length c))) bytes ≡ index_part k c ++ more
  following-content =
      let all : 512 * k + 512 * blocks_for (length c) ≡ 512 * (k + blocks_for (length c)) = omega arith in
      ap (λ j. drop j bytes) (sym all) ∙ sym (drop-drop (512 * blocks_for (length c)) (512 * k) bytes)
      ∙ ap (drop (512 * blocks_for (length c))) (there ∙ ap (λ (xs : Bytes). xs ++ more) (content_blocks-is k c) ∙ append_assoc (padded (512 * blocks_for (length c)) c) (index_part k c) more)
      ∙ past-is (512 * blocks_for (length c)) (padded (512 * blocks_for (length c)) c) (index_part k c ++ more) (length-content_part c)

  -- the numbers in the index blocks
  pub indexed : List ℕ
  indexed = pointers (256 * index_for (length c)) (drop (512 * (k + blocks_for (length c))) bytes)

  indexed-read : (rest : List ℕ) × (indexed ≡ range_with_len (k + direct_for (length c)) (blocks_for (length c) - direct_for (length c)) ++ rest)
  unfolding indexed index_part padded
  indexed-read =
      let row = encoded_numbers (range_with_len (k + direct_for (length c)) (blocks_for (length c) - direct_for (length c))) in
      let zeros = replicate (512 * index_for (length c) - length row) 0 in
      let found = row-read (k + direct_for (length c)) (blocks_for (length c) - direct_for (length c)) (256 * index_for (length c)) (zeros ++ more) (omega arith) (omega arith) in
      (found.0, ap (pointers (256 * index_for (length c))) (following-content ∙ append_assoc row zeros more) ∙ found.1)

  used_content-as : used_content v bytes n ≡ take (blocks_for (length c)) (pointers 10 (drop 8 (inode v bytes n)) ++ indexed)
  unfolding indexed
  used_content-as =
      ap (λ s. take (blocks_for s) (pointers 10 (drop 8 (inode v bytes n)) ++ flat_map (λ j. pointers 256 (block bytes j)) (used_index v bytes n))) size-read
      ∙ ap (λ (ks : List ℕ). take (blocks_for (length c)) (pointers 10 (drop 8 (inode v bytes n)) ++ flat_map (λ j. pointers 256 (block bytes j)) ks)) used_index-read
      ∙ ap (λ (ks : List ℕ). take (blocks_for (length c)) (pointers 10 (drop 8 (inode v bytes n)) ++ ks)) (pointers-row bytes (k + blocks_for (length c)) (index_for (length c)))

  few_blocks : blocks_for (length c) ≤ 10 → take (blocks_for (length c)) (pointers 10 (drop 8 (inode v bytes n)) ++ indexed) ≡ range_with_len k (blocks_for (length c))
  few_blocks few =
      let b = blocks_for (length c) in
      let all : direct_for (length c) ≡ b = omega arith in
      let found = direct-inode v sort count (length c) k short in
      let read = row-read k b 10 found.0 few (omega arith) in
      ap (λ (xs : Bytes). take b (pointers 10 xs ++ indexed)) (ap (drop 8) here ∙ found.1 ∙ ap (λ m. encoded_numbers (range_with_len k m) ++ found.0) all)
      ∙ ap (λ (ks : List ℕ). take b (ks ++ indexed)) read.1
      ∙ ap (take b) (append_assoc (range_with_len k b) read.0 indexed)
      ∙ front-is b (range_with_len k b) (read.0 ++ indexed) (length-range_with_len k b)

  many_blocks : 10 < blocks_for (length c) → take (blocks_for (length c)) (pointers 10 (drop 8 (inode v bytes n)) ++ indexed) ≡ range_with_len k (blocks_for (length c))
  many_blocks many =
      let b = blocks_for (length c) in
      let all : direct_for (length c) ≡ 10 = omega arith in
      let whole : 10 + (b - 10) ≡ b = omega arith in
      let found = direct-inode v sort count (length c) k short in
      ap (λ (xs : Bytes). take b (pointers 10 xs ++ indexed)) (ap (drop 8) here ∙ found.1 ∙ ap (λ m. encoded_numbers (range_with_len k m) ++ found.0) all)
      ∙ ap (λ (ks : List ℕ). take b (ks ++ indexed)) (pointers-encoded_numbers k 10 found.0 (omega arith))
      ∙ ap (λ (ks : List ℕ). take b (range_with_len k 10 ++ ks)) (indexed-read.1 ∙ ap (λ d. range_with_len (k + d) (b - d) ++ indexed-read.0) all)
      ∙ ap (take b) (sym (append_assoc (range_with_len k 10) (range_with_len (k + 10) (b - 10)) indexed-read.0))
      ∙ ap (λ (ks : List ℕ). take b (ks ++ indexed-read.0)) (sym (range_with_len-add k 10 (b - 10)) ∙ ap (range_with_len k) whole)
      ∙ front-is b (range_with_len k b) indexed-read.0 (length-range_with_len k b)

  pub used_content-read : used_content v bytes n ≡ range_with_len k (blocks_for (length c))
  used_content-read =
      used_content-as
      ∙ Rattle.std.proofs.Common.⊎_elim (λ many. many_blocks many) (λ few. few_blocks few) (cases_lt 10 (blocks_for (length c)))

  pub used-read : used_content v bytes n ++ used_index v bytes n ≡ range_with_len k (taken (length c))
  used-read =
      ap (λ (ks : List ℕ). ks ++ used_index v bytes n) used_content-read
      ∙ ap (λ (ks : List ℕ). range_with_len k (blocks_for (length c)) ++ ks) used_index-read
      ∙ sym (range_with_len-add k (blocks_for (length c)) (index_for (length c)))

  pub content-read : content v bytes n ≡ c
  unfolding padded
  content-read =
      let b = blocks_for (length c) in
      let enough : length c ≤ 512 * b = omega arith in
      let zeros = replicate (512 * b - length c) 0 in
      ap (λ s. take s (flat_map (block bytes) (used_content v bytes n))) size-read
      ∙ ap (λ (ks : List ℕ). take (length c) (flat_map (block bytes) ks)) used_content-read
      ∙ ap (take (length c)) (blocks-row bytes k b)
      ∙ take-take (length c) (512 * b) (drop (512 * k) bytes) enough
      ∙ ap (take (length c)) (there ∙ ap (λ (xs : Bytes). xs ++ more) (content_blocks-is k c) ∙ append_assoc (c ++ zeros) (index_part k c) more ∙ append_assoc c zeros (index_part k c ++ more))
      ∙ front-is (length c) c (zeros ++ (index_part k c ++ more)) refl
