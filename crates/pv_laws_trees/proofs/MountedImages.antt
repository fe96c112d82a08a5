-- An image of a tree mounts as that tree.
use Rattle.std.proofs.Common.{◌≡◌, ◌≢◌, ℕ, zero, suc, ◌+◌, ◌-◌, ◌<◌, ◌≤◌, true, false, not, ◌==◌, List, [], ◌∷◌, map, length, Option, None, Some, Result, Ok, Err, ap, sym, subst, ◌∙◌, refl, arith, ⊎_elim}
use Rattle.std.specs.List.{AllByRecursion, range_with_len}
use Rattle.std.proofs.lemmas.Bool.{eq-eqb, eqb-true, le-leb, or_cases, cases_eq, cases_lt}
use Rattle.std.proofs.lemmas.List.{length-map}
use Rattle.std.proofs.lemmas.List.FromFn.{length-range_with_len}
use Rattle.pv_model.specs.declared.fault.ImageFault.{ImageFault}
use Rattle.pv_model.specs.declared.version.Version.{Version}
use Rattle.pv_model.specs.Machine.{Bytes, inode_blocks, used_blocks, Holds, HoldsAny, IsImageOf, appears_twice, block_number, inode_number, kind, is_free, name_count, is_reached_within, tree_in, mounted, Numbered, at_number, Node, directory_node, file_node, link_node, Tree, root, node_at, is_directory, is_directory_at, find_entry, names_of, IsReached, from_root}
use Rattle.pv_model.specs.Mount.{may_be_named, node_in, HasSizes}
use Rattle.pv_laws_trees.specs.Inodes.{AreFineBlocks, IsData, IsInPlace, is_placed}
use Rattle.pv_laws_trees.proofs.NumberedMaps.{at_number-below, same_numbered}
use Rattle.pv_laws_trees.proofs.PassedTests.{IsPassed, passed-mounted}
use Rattle.pv_laws_trees.proofs.InodeBlocks.{used_first, fine-all, fine-blocks, used-all}
use Rattle.pv_laws_trees.proofs.ImageEntries.{image-fine, image-node, image-content, image-once, some-node}
use Rattle.pv_laws_trees.proofs.HeldNodes.{node-held}
use Rattle.pv_laws_trees.proofs.Inodes.{fine-inode}
use Rattle.pv_laws_trees.proofs.InodeNames.{as_many_names, counted-entry}
use Rattle.pv_laws_trees.proofs.InodeNodes.{node_at-in, fine-content}
use Rattle.pv_laws_trees.proofs.ImagePlaces.{fine-place, named-root, directory-named, other-named}
use Rattle.pv_laws_trees.proofs.Ranges.{each_weaker, distinct-once, past-made}
use Rattle.pv_laws_trees.proofs.ReachedNodes.{reached-within}
use Rattle.pv_laws_trees.proofs.ImageTrees.{AreSizes, sizes-has, directory-node}

-- no number past the end has a value
past_end : {X : Type 0} (xs : Numbered X) (n : ℕ) → length xs ≤ n → at_number xs n ≡ None
past_end {X = X} xs n past = by (at_number xs n) refl
  where
    by : (o : Option X) → at_number xs n ≡ o → o ≡ None
    by None at = refl
    by (Some x) at = absurd (omega (arith, at_number-below xs n x at, past))

module _ (bytes : Bytes) (t : Tree) (is : IsImageOf bytes t) where
  abbrev v : Version
  v = t.version

  abbrev last : ℕ
  last = inode_number bytes

  -- ---- the sizes

  image-sizes : AreSizes v bytes
  image-sizes =
      let inodes = is.all_inodes in
      record {
        some_inodes = omega (arith, is.inodes_allowed.0, inodes);
        few_inodes = omega (arith, is.inodes_allowed.1, inodes);
        some_blocks = subst (λ m. inode_blocks v m + 1 ≤ block_number bytes) (sym inodes) is.blocks_allowed.0;
        few_blocks = is.blocks_allowed.1;
        long = is.all_blocks;
      }

  image-has : HasSizes bytes v
  image-has =
      let some = image-sizes.some_blocks in
      let long = image-sizes.long in
      record { long_enough = omega (arith, some, long); has_magic = is.has_magic; sizes = sizes-has v bytes image-sizes }

  -- ---- the tree

  same_at : (n : ℕ) → node_at (tree_in v bytes) n ≡ node_at t n
  same_at zero = sym is.well_formed.no_zero
  same_at (suc i) =
      ⊎_elim
      (λ below. let low : 1 ≤ suc i = omega arith in let high : suc i ≤ last = omega (arith, below) in node_at-in v bytes (suc i) low high ∙ image-node bytes t is (suc i) low high)
      (λ past. let numbers = is.well_formed.numbers in let inodes = is.all_inodes in
      past-made (node_in v bytes) 1 last i past ∙ sym (past_end t.nodes (suc i) (omega (arith, numbers, inodes, past))))
      (cases_lt i last)

  pub tree-same : tree_in v bytes ≡ t
  tree-same = λ i. record { nodes = nodes i; blocks = blocks i; inodes = is.all_inodes i; version = v }
    where
      nodes : (tree_in v bytes).nodes ≡ t.nodes
      nodes =
          let long : length (map (node_in v bytes) (range_with_len 1 last)) ≡ last = length-map (range_with_len 1 last) (node_in v bytes) ∙ length-range_with_len 1 last in
          let numbers = is.well_formed.numbers in
          let inodes = is.all_inodes in
          same_numbered (tree_in v bytes).nodes t.nodes (omega (arith, long, numbers, inodes)) same_at

      blocks : block_number bytes - 1 - inode_blocks v last ≡ t.blocks
      blocks = let count = is.data_blocks in let same = ap (inode_blocks v) is.all_inodes in omega (arith, count, same)

  -- ---- the blocks

  used-same : used_first v bytes last ≡ used_blocks bytes t
  used-same = sym (used-all v bytes (λ n low high. (image-fine bytes t is n low high).kinds)) ∙ ap (used_blocks bytes) tree-same

  blocks-fine : (n : ℕ) → 1 ≤ n → n ≤ last → AreFineBlocks v bytes n
  blocks-fine =
      let same = ap (inode_blocks v) is.all_inodes in
      fine-all v bytes (ap (appears_twice ◌==◌) used-same ∙ distinct-once ◌==◌ (used_blocks bytes t) is.used_once)
      (subst (AllByRecursion (IsData v bytes)) (sym used-same)
      (each_weaker (λ k. (inode_blocks v t.inodes < k) × (k < block_number bytes)) (IsData v bytes) (λ k both. (omega (arith, both.0, same), both.1)) (used_blocks bytes t) is.in_data))

  -- ---- the places

  found-same : (d : ℕ) (name : Bytes) (n : ℕ) → find_entry (tree_in v bytes) d name ≡ Some n → find_entry t d name ≡ Some n
  found-same d name n found = ap (λ u. find_entry u d name) (sym tree-same) ∙ found

  named-within : (d : ℕ) (name : Bytes) (n : ℕ) → find_entry (tree_in v bytes) d name ≡ Some n → (1 ≤ n) × (n ≤ last)
  named-within d name n found = let there = some-node bytes t is n (is.well_formed.entries_are_nodes d name n (found-same d name n found)) in (there.0, there.1)

  reached-in : (n : ℕ) → IsReached t n → is_reached_within v bytes last n ≡ true
  reached-in n reached = reached-within v bytes (image-once bytes t is) (record { some = image-sizes.some_inodes; entries = named-within }) n (subst (λ u. IsReached u n) (sym tree-same) reached)

  count-same : (n : ℕ) → name_count v bytes n ≡ length (names_of t n)
  count-same n = sym (as_many_names v bytes (image-once bytes t is) n) ∙ ap (λ u. length (names_of u n)) tree-same

  root-fine : IsInPlace v bytes root
  root-fine =
      let node = directory-node (node_at t root) is.well_formed.root_is_directory in
      let held = node-held bytes t is root (directory_node node.0) node.1 in
      record {
        named = ap (may_be_named v bytes root) (count-same root ∙ ap length is.well_formed.root_is_unnamed) ∙ named-root v bytes held.kind;
        stored = held.count ∙ sym (count-same root);
        reached = reached-in root from_root;
      }

  module _ (n : ℕ) (node : Node) (at : node_at t n ≡ Some node) (other : n ≢ root) where
    some_name : 1 ≤ name_count v bytes n
    some_name = by (names_of t n) refl
      where
        by : (names : List (ℕ × Bytes)) → names_of t n ≡ names → 1 ≤ name_count v bytes n
        by [] none = absurd (other (is.each_named n node at none))
        by (name ∷ names) some = omega (arith, count-same n, ap length some)

    may_have : may_be_named v bytes n (name_count v bytes n) ≡ true
    may_have =
        ⊎_elim
        (λ one.
        let few : length (names_of t n) ≤ 1 = is.well_formed.directories_once n (directory one) in
        directory-named v bytes n (name_count v bytes n) other one ∙ eq-eqb (name_count v bytes n) 1 (omega (arith, some_name, few, count-same n)))
        (λ plain. other-named v bytes n (name_count v bytes n) other plain ∙ le-leb 1 (name_count v bytes n) some_name)
        (cases_eq (kind v bytes n) 1)
      where
        by : (node : Node) → node_at t n ≡ Some node → Holds v bytes t n node → kind v bytes n ≡ 1 → is_directory_at t n ≡ true
        by (directory_node es) at h one = ap is_directory at
        by (file_node false contained) at h one = let k : kind v bytes n ≡ 2 = h.kind in absurd (omega (arith, one, k))
        by (file_node true contained) at h one = let k : kind v bytes n ≡ 3 = h.kind in absurd (omega (arith, one, k))
        by (link_node text) at h one = let k : kind v bytes n ≡ 4 = h.kind in absurd (omega (arith, one, k))

        directory : kind v bytes n ≡ 1 → is_directory_at t n ≡ true
        directory one = by node at (node-held bytes t is n node at) one

    other-fine : IsInPlace v bytes n
    other-fine =
        let entry = counted-entry v bytes (image-once bytes t is) n some_name in
        record {
          named = may_have;
          stored = (node-held bytes t is n node at).count ∙ sym (count-same n);
          reached = reached-in n (is.well_formed.named_are_reached entry.0 entry.1 n (found-same entry.0 entry.1 n entry.2));
        }

  place-fine : (n : ℕ) → 1 ≤ n → n ≤ last → is_placed v bytes n ≡ true → IsInPlace v bytes n
  place-fine n low high placed =
      ⊎_elim (λ top. at_root (eqb-true n root top))
      (λ used. ⊎_elim at_root (λ other. by (node_at t n) refl other used) (cases_eq n root))
      (or_cases (n == root) (not (is_free v bytes n)) placed)
    where
      at_root : n ≡ root → IsInPlace v bytes n
      at_root same = subst (IsInPlace v bytes) (sym same) root-fine

      by : (o : Option Node) → node_at t n ≡ o → n ≢ root → not (is_free v bytes n) ≡ true → IsInPlace v bytes n
      by (Some node) at other used = other-fine n node at other
      by None at other used =
          let inodes = is.all_inodes in
          let free : kind v bytes n ≡ 0 = subst (HoldsAny v bytes t n) at (is.each_inode n low (omega (arith, high, inodes))) in
          let no = ap not (eq-eqb (kind v bytes n) 0 free) in
          cc

  -- ---- the image mounts

  image-passed : IsPassed v bytes
  image-passed = record {
    sizes = image-has;
    inodes = λ n low high. fine-inode v bytes n (image-fine bytes t is n low high);
    blocks = λ n low high. fine-blocks v bytes n (blocks-fine n low high);
    contents = λ n low high. fine-content v bytes n (image-content bytes t is n low high);
    places = λ n low high. fine-place v bytes n (place-fine n low high);
  }

  pub image-mounted : mounted bytes ≡ Ok t
  image-mounted = passed-mounted v bytes image-passed ∙ ap Ok tree-same

abbrev tree_or : Tree → Result Tree ImageFault → Tree
tree_or t (Ok u) = u
tree_or t (Err fault) = t

pub one-tree : (bytes : Bytes) (t u : Tree) → IsImageOf bytes t → IsImageOf bytes u → t ≡ u
one-tree bytes t u first second = ap (tree_or t) (sym (image-mounted bytes t first) ∙ image-mounted bytes u second)
