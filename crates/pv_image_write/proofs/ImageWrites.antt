-- The parts of an image, node by node.
use Rattle.std.proofs.Common.{◌≡◌, ℕ, suc, ◌+◌, ◌-◌, ◌*◌, ◌<◌, ◌≤◌, ◌++◌, length, replicate, true, Option, None, Some, is_some, refl, ap, sym, subst, ◌∙◌, add-one, arith}
use Rattle.std.proofs.lemmas.List.{append_assoc, append-nil, length-append}
use Rattle.std.specs.List.{range_with_len}
use Rattle.pv_model.specs.declared.version.Version.{Version}
use Rattle.pv_model.specs.declared.version.Version.TheVariants.{V1, V2}
use Rattle.pv_model.specs.Machine.{Bytes, inode_blocks, inode_length, Node, Tree, node_at, names_of}
use Rattle.pv_streams.specs.Sinks.{WritesPrefix}
use Rattle.pv_image_write.specs.Encoding.{padded, encoded_numbers, node_content, content_of, blocks_for, direct_for, index_for, content_blocks, after_content, taken_of, inode_of, content_blocks_of, taken_before, first_data_block, first_block_of, concatenated, content_blocks_at, first_block, all_inodes, all_contents, image_bytes}
use Rattle.pv_image_write.specs.Written.{IsPartlyWritten}
use Rattle.pv_image_write.specs.Writable.{IsWritable, AreWritten}
use Rattle.pv_image_write.proofs.PartConcatenation.{concatenated-more, length-padded}
use Rattle.pv_image_write.proofs.ImageParts.{few-blocks, length-all_contents, length-all_inodes, length-first_block, table-fits, taken_before-grows}
use Rattle.pv_streams.proofs.OutputTexts.{begins_first}
use Rattle.pv_image_write.proofs.WindowWrites.{put-following, put-cut, put-more, put-on, put-start, put-within}

-- the blocks of contents are the contents, and the bytes after them
pub content-split : (k : ℕ) (bytes : Bytes) → content_blocks k bytes ≡ bytes ++ after_content k (length bytes)
unfolding content_blocks after_content padded
content-split k bytes =
    let size = length bytes in
    let numbers = encoded_numbers (range_with_len (k + direct_for size) (blocks_for size - direct_for size)) in
    append_assoc bytes (replicate (512 * blocks_for size - size) 0) (numbers ++ replicate (512 * index_for size - length numbers) 0)

blocks-split : (v : Version) (k : ℕ) (o : Option Node) → is_some o ≡ true → content_blocks_of v k o ≡ content_of v o ++ after_content k (length (content_of v o))
blocks-split v k None some = cc
blocks-split v k (Some node) some = content-split k (node_content v node)

pub blocks-put : (v : Version) (k size : ℕ) (o o' : Option Node) (old now new : Bytes) → is_some o ≡ true → o' ≡ o → now ≡ old ++ content_of v o → size ≡ length (content_of v o)
    → new ≡ now ++ after_content k size → new ≡ old ++ content_blocks_of v k o'
blocks-put v k size o o' old now new some same put long following =
    following ∙ ap (λ (xs : Bytes). xs ++ after_content k size) put
    ∙ append_assoc old (content_of v o) (after_content k size)
    ∙ ap (λ m. old ++ (content_of v o ++ after_content k m)) long
    ∙ ap (λ (xs : Bytes). old ++ xs) (sym (blocks-split v k o some))
    ∙ ap (λ p. old ++ content_blocks_of v k p) (sym same)

-- padding after other bytes
pub padded-following : (n m : ℕ) (xs ys : Bytes) → length xs ≡ n → padded (n + m) (xs ++ ys) ≡ xs ++ padded m ys
unfolding padded
padded-following n m xs ys long =
    let left : n + m - length (xs ++ ys) ≡ m - length ys = omega (arith, long, length-append xs ys) in
    ap (λ k. (xs ++ ys) ++ replicate k 0) left ∙ append_assoc xs ys (replicate (m - length ys) 0)

filled : (n m k : ℕ) (xs ys now new : Bytes) → length xs ≡ n → k ≡ n + m → now ≡ xs ++ ys → new ≡ padded k now → new ≡ xs ++ padded m ys
filled n m k xs ys now new long whole so_far is =
    is ∙ ap (λ j. padded j now) whole ∙ ap (padded (n + m)) so_far ∙ padded-following n m xs ys long

-- one more inode has room if there is room for all
row-room : (v : Version) (i n : ℕ) → i < n → inode_length v * i + inode_length v ≤ inode_length v * n
row-room V1 i n below = omega arith
row-room V2 i n below = omega arith

-- the contents of the nodes up to a number follow other bytes: a prefix of all of these was written, and the rest is in
-- a window; and the next free block
pub record ArePut (t : Tree) (n : ℕ) (before : Bytes) (entry now : Option Bytes) (window : Bytes) (next : ℕ) : Type 0 where
  pub all : Bytes
  pub put : IsPartlyWritten entry now window all
  pub as_written : AreWritten all_contents t n before all next

module _ (u : Tree) (w : IsWritable u) where
  start : (next : ℕ) → next ≡ first_data_block u.version u.inodes → next ≡ first_block_of u 1
  unfolding first_block_of
  start next is = omega (arith, is, ap (taken_of u.version) w.well_formed.no_zero)

  pub inodes-start : (before : Bytes) (next : ℕ) → next ≡ first_data_block u.version u.inodes → AreWritten all_inodes u 0 before before next
  unfolding all_inodes
  inodes-start before next is = record { so_far = sym (append-nil before); block_after = start next is }

  pub contents-start : (before : Bytes) (next : ℕ) → next ≡ first_data_block u.version u.inodes → AreWritten all_contents u 0 before before next
  unfolding all_contents
  contents-start before next is = record { so_far = sym (append-nil before); block_after = start next is }

  block-step : (n k k' : ℕ) (o : Option Node) → k ≡ first_block_of u (suc n) → o ≡ node_at u (suc n) → k' ≡ k + taken_of u.version o → k' ≡ first_block_of u (suc (suc n))
  unfolding first_block_of
  block-step n k k' o so_far is next = omega (arith, next, so_far, ap (taken_of u.version) is)

  pub inodes-step : (n : ℕ) (before now new : Bytes) (k k' names : ℕ) (o : Option Node) → AreWritten all_inodes u n before now k → names ≡ length (names_of u (suc n))
      → o ≡ node_at u (suc n) → new ≡ now ++ inode_of u.version names k o → k' ≡ k + taken_of u.version o → AreWritten all_inodes u (n + 1) before new k'
  unfolding all_inodes
  inodes-step n before now new k k' names o as_written many is next_inode next_block =
      subst (λ m. AreWritten all_inodes u m before new k') (sym (add-one n))
      (record {
        so_far =
            next_inode ∙ ap (λ (xs : Bytes). xs ++ inode_of u.version names k o) as_written.so_far
            ∙ append_assoc before (all_inodes u n) (inode_of u.version names k o)
            ∙ ap (λ m. before ++ (all_inodes u n ++ inode_of u.version m k o)) many
            ∙ ap (λ m. before ++ (all_inodes u n ++ inode_of u.version (length (names_of u (suc n))) m o)) as_written.block_after
            ∙ ap (λ p. before ++ (all_inodes u n ++ inode_of u.version (length (names_of u (suc n))) (first_block_of u (suc n)) p)) is;
        block_after = block-step n k k' o as_written.block_after is next_block;
      })

  pub contents-step : (n : ℕ) (before now new : Bytes) (k k' : ℕ) (o : Option Node) → AreWritten all_contents u n before now k
      → o ≡ node_at u (suc n) → new ≡ now ++ content_blocks_of u.version k o → k' ≡ k + taken_of u.version o → AreWritten all_contents u (n + 1) before new k'
  unfolding all_contents
  contents-step n before now new k k' o as_written is next_content next_block =
      subst (λ m. AreWritten all_contents u m before new k') (sym (add-one n))
      (record {
        so_far =
            next_content ∙ ap (λ (xs : Bytes). xs ++ content_blocks_of u.version k o) as_written.so_far
            ∙ append_assoc before (all_contents u n) (content_blocks_of u.version k o)
            ∙ ap (λ m. before ++ (all_contents u n ++ content_blocks_of u.version m o)) as_written.block_after
            ∙ ap (λ p. before ++ (all_contents u n ++ content_blocks_of u.version (first_block_of u (suc n)) p)) is;
        block_after = block-step n k k' o as_written.block_after is next_block;
      })

  -- the blocks of a node are within the image
  pub as_written-room : (n k : ℕ) (o : Option Node) → k ≡ first_block_of u (suc n) → n < u.inodes → o ≡ node_at u (suc n) → k + taken_of u.version o < 65536
  unfolding first_block_of
  as_written-room n k o following within is =
      omega (
        arith,
        following,
        ap (taken_of u.version) is,
        taken_before-grows u (suc (suc n)) (suc u.inodes) (omega arith),
        w.room,
        w.allowed,
        few-blocks u.version,
      )

  -- ---- the whole table

  all-inodes : (n : ℕ) (front now : Bytes) → n ≡ u.inodes → now ≡ front ++ all_inodes u n → now ≡ front ++ all_inodes u u.inodes
  all-inodes n front now all so_far = so_far ∙ ap (λ k. front ++ all_inodes u k) all

  pub table-room : (n table : ℕ) (front now : Bytes) → length front ≡ 512 → n ≡ u.inodes → table ≡ inode_blocks u.version u.inodes → now ≡ front ++ all_inodes u n
      → length now ≤ 512 * (table + 1)
  table-room n table front now long all blocks so_far =
      let is = ap (λ (xs : Bytes). length xs) (all-inodes n front now all so_far) in
      omega (arith, is, length-append front (all_inodes u u.inodes), long, length-all_inodes u w u.inodes, table-fits u.version u.inodes, blocks)

  pub table-is : (n table : ℕ) (front now new : Bytes) → length front ≡ 512 → n ≡ u.inodes → table ≡ inode_blocks u.version u.inodes → now ≡ front ++ all_inodes u n
      → new ≡ padded (512 * (table + 1)) now → new ≡ front ++ padded (512 * inode_blocks u.version u.inodes) (all_inodes u u.inodes)
  table-is n table front now new long all blocks so_far is =
      filled 512 (512 * inode_blocks u.version u.inodes) (512 * (table + 1)) front (all_inodes u u.inodes) now new long (omega (arith, blocks)) (all-inodes n front now all so_far) is

  pub length-with_table : (blocks : ℕ) (now : Bytes) → now ≡ first_block u.version blocks u.inodes ++ padded (512 * inode_blocks u.version u.inodes) (all_inodes u u.inodes)
      → length now ≡ 512 * (inode_blocks u.version u.inodes + 1)
  length-with_table blocks now is =
      let front = first_block u.version blocks u.inodes in
      let rows = padded (512 * inode_blocks u.version u.inodes) (all_inodes u u.inodes) in
      let fit : length (all_inodes u u.inodes) ≤ 512 * inode_blocks u.version u.inodes = omega (arith, length-all_inodes u w u.inodes, table-fits u.version u.inodes) in
      omega (
        arith,
        ap (λ (xs : Bytes). length xs) is,
        length-append front rows,
        length-first_block u.version blocks u.inodes,
        length-padded (512 * inode_blocks u.version u.inodes) (all_inodes u u.inodes) fit,
      )

  pub inode-room : (n : ℕ) (front now : Bytes) → length front ≡ 512 → n < u.inodes → now ≡ front ++ all_inodes u n
      → length now + inode_length u.version ≤ 512 * (inode_blocks u.version u.inodes + 1)
  inode-room n front now long within so_far =
      omega (
        arith,
        ap (λ (xs : Bytes). length xs) so_far,
        length-append front (all_inodes u n),
        long,
        length-all_inodes u w n,
        table-fits u.version u.inodes,
        row-room u.version n u.inodes within,
      )

  -- ---- the contents after it, in a window

  after_table : Bytes
  after_table = padded (512 * u.blocks) (all_contents u u.inodes)

  pub put-none : (window : Bytes) (written : Option Bytes) (next : ℕ) → next ≡ first_data_block u.version u.inodes → ArePut u 0 window written written window next
  put-none window written next is = record { all = window; put = put-start written window; as_written = contents-start window next is }

  -- the blocks of one more node
  pub put-node : (n : ℕ) (before : Bytes) (entry now : Option Bytes) (window new : Bytes) (k taken : ℕ) (o : Option Node) → ArePut u n before entry now window k
      → o ≡ node_at u (suc n) → new ≡ window ++ content_blocks_of u.version k o → taken ≡ taken_of u.version o → ArePut u (n + 1) before entry now new (k + taken)
  put-node n before entry now window new k taken o p is next_content many = record {
    all = p.all ++ content_blocks_of u.version k o;
    put = put-more entry now window p.all new (content_blocks_of u.version k o) p.put next_content;
    as_written = contents-step n before p.all (p.all ++ content_blocks_of u.version k o) k (k + taken) o p.as_written is refl (ap (λ j. k + j) many);
  }

  -- some of the window was written
  pub written-node : (n : ℕ) (before : Bytes) (entry mid after : Option Bytes) (window new : Bytes) (k : ℕ) → ArePut u n before entry mid window k → IsPartlyWritten mid after new window
      → ArePut u n before entry after new k
  written-node n before entry mid after window new k p q = record { all = p.all; put = put-on entry mid after window p.all new p.put q; as_written = p.as_written }

  -- the contents start with those of the nodes up to a number
  begins-contents : (n : ℕ) → n ≤ u.inodes → (more : Bytes) × (after_table ≡ all_contents u n ++ more)
  unfolding after_table padded all_contents
  begins-contents n within =
      let found = concatenated-more (content_blocks_at u) n (u.inodes - n) in
      let all : n + (u.inodes - n) ≡ u.inodes = omega arith in
      let zeros = replicate (512 * u.blocks - length (concatenated (content_blocks_at u) u.inodes)) 0 in
      (found.0 ++ zeros, ap (λ (xs : Bytes). xs ++ zeros) (ap (concatenated (content_blocks_at u)) (sym all) ∙ found.1) ∙ append_assoc (concatenated (content_blocks_at u) n) found.0 zeros)

  pub cut-node : (n : ℕ) (before : Bytes) (entry mid after : Option Bytes) (window : Bytes) (k : ℕ) → n ≤ u.inodes → ArePut u n before entry mid window k → WritesPrefix window mid after
      → WritesPrefix (before ++ padded (512 * u.blocks) (all_contents u u.inodes)) entry after
  unfolding after_table
  cut-node n before entry mid after window k within p begun =
      let found = begins-contents n within in
      let whole : p.all ++ found.0 ≡ before ++ after_table =
      ap (λ (xs : Bytes). xs ++ found.0) p.as_written.so_far ∙ append_assoc before (all_contents u n) found.0 ∙ ap (λ (xs : Bytes). before ++ xs) (sym found.1) in
      subst (λ (xs : Bytes). WritesPrefix xs entry after) whole (begins_first p.all found.0 entry after (put-cut entry mid after window p.all p.put begun))

  length-put : (n : ℕ) (before : Bytes) (entry now : Option Bytes) (window : Bytes) (k : ℕ) → ArePut u n before entry now window k → length window ≤ length before + 512 * taken_before u (suc n)
  length-put n before entry now window k p =
      omega (arith, put-within entry now window p.all p.put, ap (λ (xs : Bytes). length xs) p.as_written.so_far, length-append before (all_contents u n), length-all_contents u w n)

  pub node-room : (n : ℕ) (before : Bytes) (entry now : Option Bytes) (window : Bytes) (k blocks : ℕ) (o : Option Node) → ArePut u n before entry now window k → n < u.inodes → o ≡ node_at u (suc n)
      → length before ≡ 512 * (inode_blocks u.version u.inodes + 1) → blocks ≡ inode_blocks u.version u.inodes + 1 + u.blocks → length window + 512 * taken_of u.version o ≤ 512 * blocks
  node-room n before entry now window k blocks o p within is long whole =
      omega (
        arith,
        length-put n before entry now window k p,
        ap (taken_of u.version) is,
        taken_before-grows u (suc (suc n)) (suc u.inodes) (omega arith),
        w.room,
        long,
        whole,
      )

  -- ---- the zeros after them

  all-contents : (n : ℕ) (front now : Bytes) → n ≡ u.inodes → now ≡ front ++ all_contents u n → now ≡ front ++ all_contents u u.inodes
  all-contents n front now all so_far = so_far ∙ ap (λ k. front ++ all_contents u k) all

  last-block : (n next : ℕ) → n ≡ u.inodes → next ≡ first_block_of u (suc n) → next ≡ first_data_block u.version u.inodes + taken_before u (suc u.inodes)
  unfolding first_block_of
  last-block n next all is = is ∙ ap (λ k. first_data_block u.version u.inodes + taken_before u (suc k)) all

  pub blocks-left : (n next blocks : ℕ) → n ≡ u.inodes → next ≡ first_block_of u (suc n) → blocks ≡ inode_blocks u.version u.inodes + 1 + u.blocks → next ≤ blocks
  blocks-left n next blocks all is whole = omega (arith, last-block n next all is, w.room, whole)

  pub zeros-room : (n : ℕ) (before : Bytes) (entry now : Option Bytes) (window : Bytes) (next blocks : ℕ) → ArePut u n before entry now window next → n ≡ u.inodes
      → length before ≡ 512 * (inode_blocks u.version u.inodes + 1) → blocks ≡ inode_blocks u.version u.inodes + 1 + u.blocks → length window + 512 * (blocks - next) ≤ 512 * blocks
  zeros-room n before entry now window next blocks p all long whole =
      omega (
        arith,
        length-put n before entry now window next p,
        last-block n next all p.as_written.block_after,
        ap (λ k. taken_before u (suc k)) all,
        w.room,
        long,
        whole,
      )

  zeros-following : (k : ℕ) (before all : Bytes) → k ≡ 512 * u.blocks - length (all_contents u u.inodes) → all ≡ before ++ all_contents u u.inodes
      → all ++ replicate k 0 ≡ before ++ padded (512 * u.blocks) (all_contents u u.inodes)
  unfolding padded
  zeros-following k before all count so_far =
      ap (λ (xs : Bytes). xs ++ replicate k 0) so_far ∙ append_assoc before (all_contents u u.inodes) (replicate k 0)
      ∙ ap (λ j. before ++ (all_contents u u.inodes ++ replicate j 0)) count

  pub put-zeros : (n : ℕ) (before : Bytes) (entry now : Option Bytes) (window : Bytes) (next blocks : ℕ) → ArePut u n before entry now window next → n ≡ u.inodes
      → blocks ≡ inode_blocks u.version u.inodes + 1 + u.blocks
      → IsPartlyWritten entry now (window ++ replicate (512 * (blocks - next)) 0) (before ++ padded (512 * u.blocks) (all_contents u u.inodes))
  put-zeros n before entry now window next blocks p all whole =
      let count : 512 * (blocks - next) ≡ 512 * u.blocks - length (all_contents u u.inodes) = omega (arith, last-block n next all p.as_written.block_after, length-all_contents u w u.inodes, whole) in
      subst (λ (xs : Bytes). IsPartlyWritten entry now (window ++ replicate (512 * (blocks - next)) 0) xs)
      (zeros-following (512 * (blocks - next)) before p.all count (all-contents n before p.all all p.as_written.so_far))
      (put-following entry now window p.all (replicate (512 * (blocks - next)) 0) p.put)

  -- the whole image
  pub image-as_written : (blocks : ℕ) (now : Bytes) → blocks ≡ first_data_block u.version u.inodes + u.blocks
      → now ≡ first_block u.version blocks u.inodes ++ padded (512 * inode_blocks u.version u.inodes) (all_inodes u u.inodes)
      → now ++ padded (512 * u.blocks) (all_contents u u.inodes) ≡ image_bytes u
  unfolding image_bytes
  image-as_written blocks now whole with_table =
      let rows = padded (512 * inode_blocks u.version u.inodes) (all_inodes u u.inodes) in
      let contents = padded (512 * u.blocks) (all_contents u u.inodes) in
      ap (λ (xs : Bytes). xs ++ contents) (with_table ∙ ap (λ k. first_block u.version k u.inodes ++ rows) whole)
      ∙ append_assoc (first_block u.version (first_data_block u.version u.inodes + u.blocks) u.inodes) rows contents

-- the blocks of an image: the first, those of the table, and the others
pub whole-image : (blocks table : ℕ) → table + 1 ≤ blocks → blocks ≡ table + 1 + (blocks - (table + 1))
whole-image blocks table fits = omega arith
