-- The parts of a written image.
use Rattle.std.proofs.Common.{◌≡◌, ℕ, zero, suc, ◌+◌, ◌-◌, ◌*◌, ◌<◌, ◌≤◌, true, ◌==◌, ◌++◌, length, take, drop, replicate, Option, None, Some, refl, ap, sym, subst, ◌∙◌, arith}
use Rattle.std.specs.List.{list_all}
use Rattle.std.proofs.lemmas.List.{append_assoc, length-append, length-replicate, drop-drop, drop-replicate}
use Rattle.pv_model.specs.declared.version.Version.{Version}
use Rattle.pv_model.specs.declared.version.Version.TheVariants.{V1, V2}
use Rattle.pv_model.specs.Machine.{Bytes, little_endian, magic, inode_blocks, inode_length, inode, block, greatest_blocks, greatest_length, Node, Tree, node_at, names_of}
use Rattle.pv_model.specs.Effect.{sort_number}
use Rattle.pv_image_write.specs.Encoding.{padded, node_content, content_of, taken_of, inode_of, content_blocks_of, taken_before, first_data_block, first_block_of, concatenated, inode_at, content_blocks_at, all_inodes, all_contents, first_block, image_bytes}
use Rattle.pv_image_write.specs.Writable.{IsWritable}
use Rattle.pv_image_write.proofs.InodeReads.{length-inode_bytes}
use Rattle.pv_image_write.proofs.PartConcatenation.{front-is, past-is, length-padded, concatenated-at, length-joined_alike}
use Rattle.pv_image_write.proofs.BlockReads.{length-content_blocks}
use Rattle.pv_laws_trees.proofs.ImageBytes.{length-little_endian}

-- a drop past a prefix
further : (a n : ℕ) (xs ys : Bytes) → length xs ≡ a → drop (a + n) (xs ++ ys) ≡ drop n ys
further a n xs ys long = sym (drop-drop n a (xs ++ ys)) ∙ ap (drop n) (past-is a xs ys long)

pub length-magic : (v : Version) → length (magic v) ≡ 8
length-magic V1 = refl
length-magic V2 = refl

pub length-first_block : (v : Version) (blocks inodes : ℕ) → length (first_block v blocks inodes) ≡ 512
unfolding first_block
length-first_block v blocks inodes =
    let zeros = replicate 500 0 in
    length-append (magic v) (little_endian 2 blocks ++ (little_endian 2 inodes ++ zeros))
    ∙ omega (
      arith,
      length-magic v,
      length-append (little_endian 2 blocks) (little_endian 2 inodes ++ zeros),
      length-append (little_endian 2 inodes) zeros,
      length-little_endian 2 blocks,
      length-little_endian 2 inodes,
      length-replicate {A = ℕ} 500 0,
    )

length-inode_of : (v : Version) (names k : ℕ) (o : Option Node) → length (content_of v o) ≤ greatest_length v → length (inode_of v names k o) ≡ inode_length v
length-inode_of v names k None short = length-replicate {A = ℕ} (inode_length v) 0
length-inode_of v names k (Some node) short = length-inode_bytes v (sort_number node) names (length (node_content v node)) k short

pub length-content_blocks_of : (v : Version) (k : ℕ) (o : Option Node) → length (content_blocks_of v k o) ≡ 512 * taken_of v o
length-content_blocks_of v k None = refl
length-content_blocks_of v k (Some node) = length-content_blocks k (node_content v node)

pub table-fits : (v : Version) (inodes : ℕ) → inode_length v * inodes ≤ 512 * inode_blocks v inodes
table-fits V1 inodes = omega arith
table-fits V2 inodes = omega arith

pub few-blocks : (v : Version) → greatest_blocks v ≤ 65535
few-blocks V1 = omega arith
few-blocks V2 = omega arith

-- more nodes take no fewer blocks
pub taken_before-more : (u : Tree) (n k : ℕ) → taken_before u n ≤ taken_before u (n + k)
taken_before-more u n zero = let none : n + 0 ≡ n = omega arith in subst (λ m. taken_before u n ≤ taken_before u m) (sym none) (omega arith)
taken_before-more u n (suc k) =
    let next : n + suc k ≡ suc (n + k) = omega arith in
    subst (λ m. taken_before u n ≤ taken_before u m) (sym next) (omega (arith, taken_before-more u n k))

pub taken_before-grows : (u : Tree) (n m : ℕ) → n ≤ m → taken_before u n ≤ taken_before u m
taken_before-grows u n m less =
    let all : n + (m - n) ≡ m = omega arith in
    subst (λ k. taken_before u n ≤ taken_before u k) all (taken_before-more u n (m - n))

-- zeros
pub zeros-taken : (c m : ℕ) → list_all (λ b. b == 0) (take c (replicate m 0)) ≡ true
zeros-taken zero m = refl
zeros-taken (suc c) zero = refl
zeros-taken (suc c) (suc m) = zeros-taken c m

pub zeros-all : (m : ℕ) → list_all (λ b. b == 0) (replicate m 0) ≡ true
zeros-all zero = refl
zeros-all (suc m) = zeros-all m

module _ (u : Tree) (w : IsWritable u) where
  pub length-inode_at : (n : ℕ) → length (inode_at u n) ≡ inode_length u.version
  length-inode_at n = length-inode_of u.version (length (names_of u n)) (first_block_of u n) (node_at u n) (w.short n)

  pub length-all_inodes : (n : ℕ) → length (all_inodes u n) ≡ inode_length u.version * n
  unfolding all_inodes
  length-all_inodes n = length-joined_alike (inode_at u) (inode_length u.version) length-inode_at n

  none_at_zero : taken_of u.version (node_at u 0) ≡ 0
  none_at_zero = ap (taken_of u.version) w.well_formed.no_zero

  pub length-all_contents : (n : ℕ) → length (all_contents u n) ≡ 512 * taken_before u (suc n)
  unfolding all_contents
  length-all_contents zero = omega (arith, none_at_zero)
  length-all_contents (suc n) =
      omega (arith, length-append (concatenated (content_blocks_at u) n) (content_blocks_at u (suc n)), length-all_contents n, length-content_blocks_of u.version (first_block_of u (suc n)) (node_at u (suc n)))

  unfoldable pub table : Bytes
  table = padded (512 * inode_blocks u.version u.inodes) (all_inodes u u.inodes)

  unfoldable pub contents : Bytes
  contents = padded (512 * u.blocks) (all_contents u u.inodes)

  unfoldable pub first : Bytes
  first = first_block u.version (first_data_block u.version u.inodes + u.blocks) u.inodes

  pub image-is : image_bytes u ≡ first ++ (table ++ contents)
  unfolding image_bytes table contents first
  image-is = refl

  pub length-first : length first ≡ 512
  unfolding first
  length-first = length-first_block u.version (first_data_block u.version u.inodes + u.blocks) u.inodes

  pub length-table : length table ≡ 512 * inode_blocks u.version u.inodes
  unfolding table
  length-table =
      length-padded (512 * inode_blocks u.version u.inodes) (all_inodes u u.inodes)
      (omega (arith, length-all_inodes u.inodes, table-fits u.version u.inodes))

  pub length-contents : length contents ≡ 512 * u.blocks
  unfolding contents
  length-contents = length-padded (512 * u.blocks) (all_contents u u.inodes) (omega (arith, length-all_contents u.inodes, w.room))

  pub length-image : length (image_bytes u) ≡ 512 * (first_data_block u.version u.inodes + u.blocks)
  length-image =
      omega (arith, ap length image-is, length-append first (table ++ contents), length-append table contents, length-first, length-table, length-contents)

  -- the bytes after the first block, and after the inode table
  pub following-first : (n : ℕ) → drop (512 + n) (image_bytes u) ≡ drop n (table ++ contents)
  following-first n = ap (drop (512 + n)) image-is ∙ further 512 n first (table ++ contents) length-first

  pub following-table : (x : ℕ) → drop (512 * (first_data_block u.version u.inodes + x)) (image_bytes u) ≡ drop (512 * x) contents
  following-table x =
      let i = inode_blocks u.version u.inodes in
      let all : 512 * (first_data_block u.version u.inodes + x) ≡ 512 + (512 * i + 512 * x) = omega arith in
      ap (λ k. drop k (image_bytes u)) all ∙ following-first (512 * i + 512 * x) ∙ further (512 * i) (512 * x) table contents length-table

  -- ---- an inode, and the blocks of a node

  pub inode-image : (n : ℕ) → n < u.inodes → inode u.version (image_bytes u) (suc n) ≡ inode_at u (suc n)
  unfolding table padded all_inodes
  inode-image n within =
      let il = inode_length u.version in
      let found = concatenated-at (inode_at u) n u.inodes within in
      let zeros = replicate (512 * inode_blocks u.version u.inodes - length (all_inodes u u.inodes)) 0 in
      let at : suc n - 1 ≡ n = omega arith in
      let rest = found.0 ++ (zeros ++ contents) in
      let split : table ++ contents ≡ all_inodes u n ++ (inode_at u (suc n) ++ rest) =
      append_assoc (all_inodes u u.inodes) zeros contents ∙ ap (λ (xs : Bytes). xs ++ (zeros ++ contents)) found.1
      ∙ append_assoc (concatenated (inode_at u) n) (inode_at u (suc n) ++ found.0) (zeros ++ contents)
      ∙ ap (λ (xs : Bytes). concatenated (inode_at u) n ++ xs) (append_assoc (inode_at u (suc n)) found.0 (zeros ++ contents)) in
      ap (λ k. take il (drop (512 + il * k) (image_bytes u))) at
      ∙ ap (take il) (following-first (il * n) ∙ ap (drop (il * n)) split ∙ past-is (il * n) (all_inodes u n) (inode_at u (suc n) ++ rest) (length-all_inodes n))
      ∙ front-is il (inode_at u (suc n)) rest (length-inode_at (suc n))

  pub blocks-image : (n : ℕ) → n < u.inodes → (more : Bytes) × (drop (512 * first_block_of u (suc n)) (image_bytes u) ≡ content_blocks_at u (suc n) ++ more)
  unfolding contents padded all_contents first_block_of
  blocks-image n within =
      let found = concatenated-at (content_blocks_at u) n u.inodes within in
      let zeros = replicate (512 * u.blocks - length (all_contents u u.inodes)) 0 in
      let rest = found.0 ++ zeros in
      let split : contents ≡ all_contents u n ++ (content_blocks_at u (suc n) ++ rest) =
      ap (λ (xs : Bytes). xs ++ zeros) found.1
      ∙ append_assoc (concatenated (content_blocks_at u) n) (content_blocks_at u (suc n) ++ found.0) zeros
      ∙ ap (λ (xs : Bytes). concatenated (content_blocks_at u) n ++ xs) (append_assoc (content_blocks_at u (suc n)) found.0 zeros) in (
        rest,
        following-table (taken_before u (suc n)) ∙ ap (drop (512 * taken_before u (suc n))) split
            ∙ past-is (512 * taken_before u (suc n)) (all_contents u n) (content_blocks_at u (suc n) ++ rest) (length-all_contents n),
      )

  -- ---- the blocks that no node takes

  pub zeros-image : (x : ℕ) → taken_before u (suc u.inodes) ≤ x → list_all (λ b. b == 0) (block (image_bytes u) (first_data_block u.version u.inodes + x)) ≡ true
  unfolding contents padded
  zeros-image x following =
      let all = all_contents u u.inodes in
      let m = 512 * u.blocks - length all in
      let j = 512 * x - length all in
      let at : 512 * x ≡ length all + j = omega (arith, length-all_contents u.inodes) in
      let bytes : drop (512 * (first_data_block u.version u.inodes + x)) (image_bytes u) ≡ replicate (m - j) 0 =
      following-table x ∙ ap (λ k. drop k contents) at ∙ further (length all) j all (replicate m 0) refl ∙ drop-replicate j m 0 in
      ap (λ (xs : Bytes). list_all (λ b. b == 0) (take 512 xs)) bytes ∙ zeros-taken 512 (m - j)
