-- The bytes that are written are an image of the tree.
use Rattle.std.proofs.Common.{◌≡◌, ℕ, zero, suc, ◌+◌, ◌-◌, ◌*◌, ◌<◌, ◌≤◌, Bool, true, false, not, ◌==◌, List, [], ◌∷◌, ◌++◌, length, take, drop, replicate, Option, None, Some, is_none, is_some, refl, ap, sym, subst, ◌∙◌, inl, inr, ⊎_elim, arith}
use Rattle.std.specs.Prelude.{flat_map, slice_get}
use Rattle.std.specs.List.{AllByRecursion, IsDistinct, list_all, list_any, range_with_len}
use Rattle.std.proofs.lemmas.Bool.{and_from, cases_eq, cases_lt, eq-eqb, or_left, or_right}
use Rattle.std.proofs.lemmas.List.{append_assoc, length-replicate, drop-drop}
use Rattle.std.proofs.lemmas.List.Folds.{list_all-append}
use Rattle.std.proofs.lemmas.List.Sorted.{IsPermutation-refl}
use Rattle.pv_model.specs.declared.version.Version.{Version}
use Rattle.pv_model.specs.declared.version.Version.TheVariants.{V1, V2}
use Rattle.pv_model.specs.Machine.{Bytes, little_endian, number_of, field, magic, block, inode_blocks, inode_length, AreSlots, inode, size, content, used_content, used_index, Holds, HoldsAny, used_blocks, IsImageOf, IsWrittenImageOf, Numbered, at_number, numbered_from, node_length, greatest_length, Entries, Node, directory_node, file_node, link_node, Tree, node_at, entries_of, entries_at, is_directory, is_name, names_of, root}
use Rattle.pv_model.specs.Effect.{sort_number}
use Rattle.pv_model.specs.Image.{stored_count, HasContent, free_numbers, free_blocks}
use Rattle.pv_laws_trees.proofs.NumberedMaps.{at_number-below}
use Rattle.pv_tree.proofs.OfDirs.EqualParts.{name_length}
use Rattle.pv_laws_trees.proofs.Ranges.{each_in_range}
use Rattle.pv_laws_trees.proofs.ImageBytes.{length-little_endian}
use Rattle.pv_image_write.specs.Encoding.{node_content, content_of, taken, taken_of, inode_of, content_blocks_of, taken_before, first_data_block, first_block_of, first_block, image_bytes, inode_bytes, content_blocks}
use Rattle.pv_image_write.specs.Writable.{IsWritable}
use Rattle.pv_image_write.proofs.NodeContents.{Each, EachOf, HasShortName, length-node_content, slots-are}
use Rattle.pv_image_write.proofs.InodeReads.{kind-inode, count-inode}
use Rattle.pv_image_write.proofs.EntryLists.{find-at, sorted-at, named-at, all-get}
use Rattle.pv_image_write.proofs.PartConcatenation.{front-is, past-is}
use Rattle.pv_image_write.proofs.ImageParts.{length-magic, length-image, image-is, first, table, contents, few-blocks, taken_before-grows, inode-image, blocks-image, zeros-image, zeros-all}
use Rattle.pv_image_write.proofs.NumberRanges.{range_with_len-add, distinct-range, list_all-picked, two-bytes}
use Rattle.pv_image_write.proofs.BlockReads.{size-read, used-read, content-read}

-- ---- the entries of a node of a tree

module _ (u : Tree) (w : IsWritable u) where
  entry-number : (n : ℕ) → is_some (node_at u n) ≡ true → n < 65536
  entry-number n is = by (node_at u n) refl is
    where
      by : (o : Option Node) → node_at u n ≡ o → is_some o ≡ true → n < 65536
      by None at some = cc
      by (Some node) at some = omega (arith, at_number-below u.nodes n node at, w.well_formed.numbers, w.few)

  entries-small : (d : ℕ) (es : Entries) → node_at u d ≡ Some (directory_node es) → Each (λ e. e.1 < 65536) es
  entries-small d es at i e is =
      let same : entries_at u d ≡ es = ap entries_of at in
      let there = ap (λ (fs : Entries). slice_get fs i) same ∙ is in
      entry-number e.1 (w.well_formed.entries_are_nodes d e.0 e.1 (find-at (entries_at u d) (sorted-at u d w.well_formed) i e there))

  entries-short : (d : ℕ) (es : Entries) → node_at u d ≡ Some (directory_node es) → Each (HasShortName u.version) es
  entries-short d es at i e is =
      let same : entries_at u d ≡ es = ap entries_of at in
      let there = ap (λ (fs : Entries). slice_get fs i) same ∙ is in
      name_length u.version e.0 (all-get (λ (f : Bytes × ℕ). is_name u.version f.0) (entries_at u d) i e (named-at u d w.well_formed) there)

  pub node-short : (n : ℕ) (node : Node) → node_at u n ≡ Some node → EachOf (HasShortName u.version) node
  node-short n (directory_node es) at = entries-short n es at
  node-short n (file_node executable bytes) at = tt
  node-short n (link_node text) at = tt

  -- ---- one inode

  module _ (n : ℕ) (within : n < u.inodes) (node : Node) (at : node_at u (suc n) ≡ Some node) where
    short : length (node_content u.version node) ≤ greatest_length u.version
    short = subst (λ o. length (content_of u.version o) ≤ greatest_length u.version) at (w.short (suc n))

    -- its blocks are within the image
    below_end : first_block_of u (suc n) + taken (length (node_content u.version node)) ≤ first_data_block u.version u.inodes + u.blocks
    unfolding first_block_of
    below_end =
        let here : taken_before u (suc (suc n)) ≡ taken_before u (suc n) + taken (length (node_content u.version node)) = ap (λ o. taken_before u (suc n) + taken_of u.version o) at in
        omega (arith, here, taken_before-grows u (suc (suc n)) (suc u.inodes) (omega arith), w.room)

    small : first_block_of u (suc n) + taken (length (node_content u.version node)) ≤ 65536
    small = omega (arith, below_end, w.allowed, few-blocks u.version)

    names : ℕ
    names = length (names_of u (suc n))

    here : inode u.version (image_bytes u) (suc n) ≡ inode_bytes u.version (sort_number node) names (length (node_content u.version node)) (first_block_of u (suc n))
    unfolding names
    here = inode-image u w n within ∙ ap (inode_of u.version (length (names_of u (suc n))) (first_block_of u (suc n))) at

    more : Bytes
    more = (blocks-image u w n within).0

    there : drop (512 * first_block_of u (suc n)) (image_bytes u) ≡ content_blocks (first_block_of u (suc n)) (node_content u.version node) ++ more
    unfolding more
    there = (blocks-image u w n within).1 ∙ ap (λ o. content_blocks_of u.version (first_block_of u (suc n)) o ++ (blocks-image u w n within).0) at

    pub used-node : used_content u.version (image_bytes u) (suc n) ++ used_index u.version (image_bytes u) (suc n) ≡ range_with_len (first_block_of u (suc n)) (taken (length (node_content u.version node)))
    used-node = used-read u.version (image_bytes u) (suc n) (sort_number node) names (first_block_of u (suc n)) (node_content u.version node) more short small here there

    content-node : content u.version (image_bytes u) (suc n) ≡ node_content u.version node
    content-node = content-read u.version (image_bytes u) (suc n) (sort_number node) names (first_block_of u (suc n)) (node_content u.version node) more short small here there

    size-node : size u.version (image_bytes u) (suc n) ≡ node_length u.version node
    size-node =
        size-read u.version (image_bytes u) (suc n) (sort_number node) names (first_block_of u (suc n)) (node_content u.version node) more short small here there
        ∙ length-node_content u.version node (node-short (suc n) node at)

    pub holds-node : Holds u.version (image_bytes u) u (suc n) node
    unfolding names
    holds-node = record {
      kind = ap (λ (xs : Bytes). field xs 0 1) here ∙ kind-inode u.version (sort_number node) names (length (node_content u.version node)) (first_block_of u (suc n)) short;
      length_stored = size-node;
      length_allowed = subst (λ k. k ≤ greatest_length u.version) (sym (size-node ∙ sym (length-node_content u.version node (node-short (suc n) node at)))) short;
      count = ap (stored_count u.version) here ∙ count-inode u.version (sort_number node) names (length (node_content u.version node)) (first_block_of u (suc n)) short (w.counted (suc n));
      has_content = by node at content-node;
    }
      where
        by : (other : Node) → node_at u (suc n) ≡ Some other → content u.version (image_bytes u) (suc n) ≡ node_content u.version other → HasContent u.version (image_bytes u) (suc n) other
        by (directory_node es) at' is =
            (es, subst (λ (xs : Bytes). AreSlots u.version xs es) (sym is) (slots-are u.version es (entries-short (suc n) es at') (entries-small (suc n) es at')), IsPermutation-refl es)
        by (file_node executable bytes) at' is = is
        by (link_node text) at' is = is

  free-inode : (v : Version) → field (replicate (inode_length v) 0) 0 1 ≡ 0
  free-inode V1 = refl
  free-inode V2 = refl

  free-here : (n : ℕ) → n < u.inodes → node_at u (suc n) ≡ None → inode u.version (image_bytes u) (suc n) ≡ replicate (inode_length u.version) 0
  free-here n within at = inode-image u w n within ∙ ap (inode_of u.version (length (names_of u (suc n))) (first_block_of u (suc n))) at

  holds-any : (n : ℕ) → n < u.inodes → (o : Option Node) → node_at u (suc n) ≡ o → HoldsAny u.version (image_bytes u) u (suc n) o
  holds-any n within None at = ap (λ (xs : Bytes). field xs 0 1) (free-here n within at) ∙ free-inode u.version
  holds-any n within (Some node) at = holds-node n within node at

  each : (n : ℕ) → 1 ≤ n → n ≤ u.inodes → HoldsAny u.version (image_bytes u) u n (node_at u n)
  each zero from within = absurd (omega arith)
  each (suc n) from within = holds-any n (omega arith) (node_at u (suc n)) refl

  -- ---- the blocks in use

  used_of : ℕ × Node → List ℕ
  used_of e = used_content u.version (image_bytes u) e.0 ++ used_index u.version (image_bytes u) e.0

  -- the first block after a node
  later-first : (i k : ℕ) → taken_before u (suc i) ≡ taken_before u i + k → first_block_of u (suc i) ≡ first_block_of u i + k
  unfolding first_block_of
  later-first i k takes = omega arith

  same-first : (i : ℕ) → taken_before u (suc i) ≡ taken_before u i + 0 → first_block_of u (suc i) ≡ first_block_of u i
  unfolding first_block_of
  same-first i takes = omega arith

  start-first : first_block_of u 0 ≡ first_data_block u.version u.inodes
  unfolding first_block_of
  start-first = omega arith

  used-from : (xs : Numbered Node) (j m : ℕ) → ((i : ℕ) → at_number xs i ≡ node_at u (j + i)) → j + length xs ≤ suc u.inodes → taken_before u j + m ≡ taken_before u (j + length xs)
      → flat_map used_of (numbered_from j xs) ≡ range_with_len (first_block_of u j) m
  unfolding used_of
  used-from [] j m same within all =
      let end : j + 0 ≡ j = omega arith in
      let none : m ≡ 0 = omega (arith, all, ap (taken_before u) end) in
      ap (range_with_len (first_block_of u j)) (sym none)
  used-from (None ∷ xs) j m same within all =
      let here : None ≡ node_at u j = let start : j + 0 ≡ j = omega arith in same 0 ∙ ap (node_at u) start in
      let takes : taken_before u (suc j) ≡ taken_before u j + 0 = ap (λ o. taken_before u j + taken_of u.version o) (sym here) in
      let end : suc j + length xs ≡ j + suc (length xs) = omega arith in
      used-from xs (suc j) m (λ i. let next : j + suc i ≡ suc j + i = omega arith in same (suc i) ∙ ap (node_at u) next) (omega arith)
      (omega (arith, takes, all, ap (taken_before u) end))
      ∙ ap (λ k. range_with_len k m) (same-first j takes)
  used-from (Some node ∷ xs) zero m same within all =
      let here = same 0 ∙ w.well_formed.no_zero in absurd (cc here)
  used-from (Some node ∷ xs) (suc j) m same within all =
      let here : node_at u (suc j) ≡ Some node = let start : suc j + 0 ≡ suc j = omega arith in sym (same 0 ∙ ap (node_at u) start) in
      let k = taken (length (node_content u.version node)) in
      let takes : taken_before u (suc (suc j)) ≡ taken_before u (suc j) + k = ap (λ o. taken_before u (suc j) + taken_of u.version o) here in
      let end : suc (suc j) + length xs ≡ suc j + suc (length xs) = omega arith in
      let grows = taken_before-grows u (suc (suc j)) (suc (suc j) + length xs) (omega arith) in
      let whole : m ≡ k + (m - k) = omega (arith, takes, all, grows, ap (taken_before u) end) in
      ap (λ (ks : List ℕ). ks ++ flat_map used_of (numbered_from (suc (suc j)) xs)) (used-node j (omega arith) node here)
      ∙ ap (λ (ks : List ℕ). range_with_len (first_block_of u (suc j)) k ++ ks)
      (used-from xs (suc (suc j)) (m - k) (λ i. let next : suc j + suc i ≡ suc (suc j) + i = omega arith in same (suc i) ∙ ap (node_at u) next) (omega arith)
      (omega (arith, takes, all, whole, ap (taken_before u) end)) ∙ ap (λ i. range_with_len i (m - k)) (later-first (suc j) k takes))
      ∙ sym (range_with_len-add (first_block_of u (suc j)) k (m - k))
      ∙ ap (range_with_len (first_block_of u (suc j))) (sym whole)

  -- all of them are consecutive
  pub used-image : used_blocks (image_bytes u) u ≡ range_with_len (first_data_block u.version u.inodes) (taken_before u (suc u.inodes))
  unfolding used_of
  used-image =
      used-from u.nodes 0 (taken_before u (suc u.inodes)) (λ i. let start : i ≡ 0 + i = omega arith in ap (node_at u) start) (omega (arith, w.well_formed.numbers))
      (let long : suc u.inodes ≡ 0 + length u.nodes = omega (arith, w.well_formed.numbers) in omega (arith, ap (taken_before u) long))
      ∙ ap (λ k. range_with_len k (taken_before u (suc u.inodes))) start-first

  -- ---- the first block

  all_blocks : ℕ
  all_blocks = first_data_block u.version u.inodes + u.blocks

  after_all : Bytes
  after_all = little_endian 2 all_blocks ++ (little_endian 2 u.inodes ++ replicate 500 0)

  rest : Bytes
  rest = table u w ++ contents u w

  begins : image_bytes u ≡ magic u.version ++ (after_all ++ rest)
  unfolding first_block first after_all all_blocks rest
  begins = image-is u w ∙ append_assoc (magic u.version) (little_endian 2 (first_data_block u.version u.inodes + u.blocks) ++ (little_endian 2 u.inodes ++ replicate 500 0)) (table u w ++ contents u w)

  following-magic : drop 8 (image_bytes u) ≡ little_endian 2 all_blocks ++ ((little_endian 2 u.inodes ++ replicate 500 0) ++ rest)
  unfolding after_all
  following-magic =
      ap (drop 8) begins ∙ past-is 8 (magic u.version) (after_all ++ rest) (length-magic u.version)
      ∙ append_assoc (little_endian 2 all_blocks) (little_endian 2 u.inodes ++ replicate 500 0) rest

  following-blocks : drop 10 (image_bytes u) ≡ little_endian 2 u.inodes ++ (replicate 500 0 ++ rest)
  following-blocks =
      sym (drop-drop 2 8 (image_bytes u)) ∙ ap (drop 2) following-magic
      ∙ past-is 2 (little_endian 2 all_blocks) ((little_endian 2 u.inodes ++ replicate 500 0) ++ rest) (length-little_endian 2 all_blocks)
      ∙ append_assoc (little_endian 2 u.inodes) (replicate 500 0) rest

  following-inodes : drop 12 (image_bytes u) ≡ replicate 500 0 ++ rest
  following-inodes =
      sym (drop-drop 2 10 (image_bytes u)) ∙ ap (drop 2) following-blocks
      ∙ past-is 2 (little_endian 2 u.inodes) (replicate 500 0 ++ rest) (length-little_endian 2 u.inodes)

  blocks-small : all_blocks < 65536
  unfolding all_blocks
  blocks-small = omega (arith, w.allowed, few-blocks u.version)

  blocks-written : field (image_bytes u) 8 2 ≡ all_blocks
  blocks-written =
      ap (λ (xs : Bytes). number_of (take 2 xs)) following-magic
      ∙ ap number_of (front-is 2 (little_endian 2 all_blocks) ((little_endian 2 u.inodes ++ replicate 500 0) ++ rest) (length-little_endian 2 all_blocks))
      ∙ two-bytes all_blocks blocks-small

  inodes-written : field (image_bytes u) 10 2 ≡ u.inodes
  inodes-written =
      ap (λ (xs : Bytes). number_of (take 2 xs)) following-blocks
      ∙ ap number_of (front-is 2 (little_endian 2 u.inodes) (replicate 500 0 ++ rest) (length-little_endian 2 u.inodes))
      ∙ two-bytes u.inodes (omega (arith, w.few))

  some-inode : 1 ≤ u.inodes
  some-inode = by (node_at u root) refl w.well_formed.root_is_directory
    where
      by : (o : Option Node) → node_at u root ≡ o → is_directory o ≡ true → 1 ≤ u.inodes
      by None at is = cc
      by (Some node) at is = omega (arith, at_number-below u.nodes root node at, w.well_formed.numbers)

  -- ---- the image

  pub is-image : IsImageOf (image_bytes u) u
  unfolding all_blocks
  is-image = record {
    has_magic = ap (take 8) begins ∙ front-is 8 (magic u.version) (after_all ++ rest) (length-magic u.version);
    all_blocks = length-image u w ∙ ap (λ k. 512 * k) (sym blocks-written);
    all_inodes = inodes-written;
    inodes_allowed = (some-inode, w.few);
    blocks_allowed = (omega (arith, blocks-written), omega (arith, blocks-written, w.allowed));
    data_blocks = omega (arith, blocks-written);
    each_inode = each;
    in_data =
        subst (AllByRecursion (λ k. (inode_blocks u.version u.inodes < k) × (k < field (image_bytes u) 8 2))) (sym used-image)
        (each_in_range (λ k. (inode_blocks u.version u.inodes < k) × (k < field (image_bytes u) 8 2)) (first_data_block u.version u.inodes) (taken_before u (suc u.inodes))
        (λ k from below. (omega arith, omega (arith, blocks-written, w.room))));
    used_once = subst (IsDistinct ◌==◌) (sym used-image) (distinct-range (first_data_block u.version u.inodes) (taken_before u (suc u.inodes)));
    well_formed = w.well_formed;
    each_named = w.each_named;
  }

  -- ---- the zeros

  free-inodes : list_all (λ b. b == 0) (flat_map (inode u.version (image_bytes u)) (free_numbers u)) ≡ true
  free-inodes = list_all-picked (inode u.version (image_bytes u)) (λ b. b == 0) (λ n. is_none (node_at u n)) 1 u.inodes by
    where
      none_from : (o : Option Node) → is_none o ≡ true → o ≡ None
      none_from None is = refl
      none_from (Some node) is = cc

      by : (k : ℕ) → 1 ≤ k → k < 1 + u.inodes → is_none (node_at u k) ≡ true → list_all (λ b. b == 0) (inode u.version (image_bytes u) k) ≡ true
      by zero from below is = absurd (omega arith)
      by (suc k) from below is =
          ap (list_all (λ b. b == 0)) (free-here k (omega arith) (none_from (node_at u (suc k)) is)) ∙ zeros-all (inode_length u.version)

  any-range : (a n k : ℕ) → a ≤ k → k < a + n → list_any (λ j. j == k) (range_with_len a n) ≡ true
  any-range a zero k from below = absurd (omega arith)
  any-range a (suc n) k from below =
      ⊎_elim (λ same. or_left (a == k) _ (eq-eqb a k (sym same))) (λ other. or_right (a == k) _ (any-range (a + 1) n k (omega (arith, other)) (omega arith))) (cases_eq k a)

  free-contents : list_all (λ b. b == 0) (flat_map (block (image_bytes u)) (free_blocks (image_bytes u) u)) ≡ true
  free-contents =
      list_all-picked (block (image_bytes u)) (λ b. b == 0) (λ k. not (list_any (λ used. used == k) (used_blocks (image_bytes u) u))) (inode_blocks u.version u.inodes + 1) u.blocks by
    where
      free_from : (b : Bool) → not b ≡ true → b ≡ false
      free_from true is = cc
      free_from false is = refl

      by : (k : ℕ) → inode_blocks u.version u.inodes + 1 ≤ k → k < inode_blocks u.version u.inodes + 1 + u.blocks
          → not (list_any (λ used. used == k) (used_blocks (image_bytes u) u)) ≡ true → list_all (λ b. b == 0) (block (image_bytes u) k) ≡ true
      by k from below is =
          let start = first_data_block u.version u.inodes in
          let total = taken_before u (suc u.inodes) in
          let unused : list_any (λ used. used == k) (range_with_len start total) ≡ false = ap (list_any (λ used. used == k)) (sym used-image) ∙ free_from _ is in
          let following : start + total ≤ k = elim (cases_lt k (start + total)) [
            | inl inside ↦ let found = any-range start total k from inside in absurd (cc (found, unused))
            | inr past ↦ past
          ] in
          let at : k ≡ start + (k - start) = omega arith in
          ap (λ j. list_all (λ b. b == 0) (block (image_bytes u) j)) at ∙ zeros-image u w (k - start) (omega (arith, following))

  first-zeros : list_all (λ b. b == 0) (take 500 (drop 12 (image_bytes u))) ≡ true
  first-zeros =
      ap (λ (xs : Bytes). list_all (λ b. b == 0) (take 500 xs)) following-inodes
      ∙ ap (list_all (λ b. b == 0)) (front-is 500 (replicate 500 0) rest (length-replicate {A = ℕ} 500 0)) ∙ zeros-all 500

  pub is-written_image : IsWrittenImageOf (image_bytes u) u
  is-written_image =
      let inodes = flat_map (inode u.version (image_bytes u)) (free_numbers u) in
      let blocks = flat_map (block (image_bytes u)) (free_blocks (image_bytes u) u) in
      let front = take 500 (drop 12 (image_bytes u)) in
      record {
        is_image = is-image;
        zeros =
            list_all-append (λ b. b == 0) (front ++ inodes) blocks
            ∙ and_from _ _ (list_all-append (λ b. b == 0) front inodes ∙ and_from _ _ first-zeros free-inodes) free-contents;
      }
