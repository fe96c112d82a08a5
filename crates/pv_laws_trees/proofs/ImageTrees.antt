-- If all tests pass, the tree that the inodes hold is well-formed.
use Rattle.std.proofs.Common.{◌≡◌, ◌≢◌, ℕ, suc, ◌+◌, ◌*◌, ◌<◌, ◌≤◌, Bool, true, false, not, ◌&&◌, ◌==◌, nat_le, List, [], ◌∷◌, length, Option, None, Some, is_some, ap, sym, subst, ◌∙◌, refl, arith, ⊎_elim}
use Rattle.std.specs.FinMap.Entries.{is_sorted}
use Rattle.std.specs.List.{AllByRecursion, list_any, list_all, range_with_len}
use Rattle.std.proofs.lemmas.Bool.{and_parts, and_from, or_parts, or_right, eqb-true, eq-eqb, ne_eqb, leb-true, le-leb, cases_eq}
use Rattle.std.proofs.lemmas.List.{length-map, nil_from_length}
use Rattle.std.proofs.lemmas.List.FromFn.{length-range_with_len}
use Rattle.pv_model.specs.declared.limits.TheConstants.{BLOCK, INODES, LINK_TEXT}
use Rattle.pv_model.specs.declared.version.Version.{Version}
use Rattle.pv_model.specs.Machine.{Bytes, is_empty, inode_blocks, greatest_blocks, size, used_index, used_content, content, slot_number, slot_name, block_number, inode_number, are_image_sizes, kind, is_free, slots_at, name_count, tree_in, Entries, Node, directory_node, file_node, link_node, Tree, root, node_at, is_directory, is_directory_at, find_entry, names_of, is_name, is_node, is_link_text, IsWellFormed}
use Rattle.pv_model.specs.Mount.{has_sizes, entries_in, node_in}
use Rattle.pv_laws_trees.specs.Inodes.{AreFineBlocks, EachOnce, IsFineContent, IsFineInode, IsInPlace, IsFineSlot}
use Rattle.pv_laws_trees.proofs.DirectoryEntries.{by_name}
use Rattle.pv_laws_trees.proofs.Trees.{parent-none_named}
use Rattle.pv_laws_trees.proofs.PassedTests.{IsPassed}
use Rattle.pv_laws_trees.proofs.Inodes.{inode-fine, length-content}
use Rattle.pv_laws_trees.proofs.InodeNodes.{by_kind, node_of, node_at-in, node-there, content-fine}
use Rattle.pv_laws_trees.proofs.InodeNames.{as_many_names, entry-within, entry-slot, counted-entry, within-reached}
use Rattle.pv_laws_trees.proofs.InodeBlocks.{blocks-fine, used-kind, some-used}
use Rattle.pv_laws_trees.proofs.Directories.{sorted-put_all, tested-put_all}
use Rattle.pv_laws_trees.proofs.ImagePlaces.{place-fine, root-named, directory-named, other-named}
use Rattle.pv_laws_trees.proofs.Ranges.{each_weaker, append_each, each_at}

-- ---- the sizes

pub record AreSizes (v : Version) (bytes : Bytes) : Type 0 where
  pub some_inodes : 1 ≤ inode_number bytes
  pub few_inodes : inode_number bytes ≤ INODES
  pub some_blocks : inode_blocks v (inode_number bytes) + 1 ≤ block_number bytes
  pub few_blocks : block_number bytes ≤ greatest_blocks v
  pub long : length bytes ≡ BLOCK * block_number bytes

pub sizes : (v : Version) (bytes : Bytes) → has_sizes v bytes ≡ true → AreSizes v bytes
sizes v bytes is =
    let m = inode_number bytes in
    let n = block_number bytes in
    let a = and_parts (are_image_sizes v n m) (length bytes == BLOCK * n) is in
    let b = and_parts (nat_le 1 m && nat_le m INODES && nat_le (inode_blocks v m + 1) n) (nat_le n (greatest_blocks v)) a.0 in
    let c = and_parts (nat_le 1 m && nat_le m INODES) (nat_le (inode_blocks v m + 1) n) b.0 in
    let d = and_parts (nat_le 1 m) (nat_le m INODES) c.0 in
    record {
      some_inodes = leb-true 1 m d.0;
      few_inodes = leb-true m INODES d.1;
      some_blocks = leb-true (inode_blocks v m + 1) n c.1;
      few_blocks = leb-true n (greatest_blocks v) b.1;
      long = eqb-true (length bytes) (BLOCK * n) a.1;
    }

pub sizes-has : (v : Version) (bytes : Bytes) → AreSizes v bytes → has_sizes v bytes ≡ true
sizes-has v bytes is =
    let m = inode_number bytes in
    let n = block_number bytes in
    and_from (are_image_sizes v n m) (length bytes == BLOCK * n)
    (and_from (nat_le 1 m && nat_le m INODES && nat_le (inode_blocks v m + 1) n) (nat_le n (greatest_blocks v))
    (and_from (nat_le 1 m && nat_le m INODES) (nat_le (inode_blocks v m + 1) n)
    (and_from (nat_le 1 m) (nat_le m INODES) (le-leb 1 m is.some_inodes) (le-leb m INODES is.few_inodes))
    (le-leb (inode_blocks v m + 1) n is.some_blocks))
    (le-leb n (greatest_blocks v) is.few_blocks))
    (eq-eqb (length bytes) (BLOCK * n) is.long)

-- ---- tests

all_not : {X : Type 0} (p : X → Bool) (xs : List X) → list_any p xs ≡ false → list_all (λ x. not (p x)) xs ≡ true
all_not p [] none = refl
all_not p (x ∷ xs) none = let parts = or_parts (p x) (list_any p xs) none in and_from (not (p x)) (list_all (λ x. not (p x)) xs) (ap not parts.0) (all_not p xs parts.1)

all_pass : {X : Type 0} (p : X → Bool) (xs : List X) → AllByRecursion (λ x. p x ≡ true) xs → list_all p xs ≡ true
all_pass p [] all = refl
all_pass p (x ∷ xs) all = and_from (p x) (list_all p xs) all.0 (all_pass p xs all.1)

not_empty : (bs : Bytes) → 1 ≤ length bs → not (is_empty bs) ≡ true
not_empty [] some = absurd (omega (arith, some))
not_empty (b ∷ bs) some = refl

pub directory-node : (o : Option Node) → is_directory o ≡ true → (es : Entries) × (o ≡ Some (directory_node es))
directory-node None is = cc is
directory-node (Some (directory_node es)) is = (es, refl)
directory-node (Some (file_node executable bytes)) is = cc is
directory-node (Some (link_node text)) is = cc is

module _ (v : Version) (bytes : Bytes) (is : IsPassed v bytes) where
  abbrev t : Tree
  t = tree_in v bytes

  abbrev last : ℕ
  last = inode_number bytes

  pub fine : (n : ℕ) → 1 ≤ n → n ≤ last → IsFineInode v (kind v bytes n) (size v bytes n)
  fine n low high = inode-fine v bytes n (is.inodes n low high)

  pub blocks : (n : ℕ) → 1 ≤ n → n ≤ last → AreFineBlocks v bytes n
  blocks n low high = blocks-fine v bytes n (is.blocks n low high)

  pub contents : (n : ℕ) → 1 ≤ n → n ≤ last → IsFineContent v bytes n
  contents n low high = content-fine v bytes n (is.contents n low high)

  pub each_once : EachOnce v bytes
  each_once = record { once = λ d low high. (contents d low high).once }

  pub place : (n : ℕ) → 1 ≤ n → n ≤ last → kind v bytes n ≢ 0 → IsInPlace v bytes n
  place n low high used = place-fine v bytes n (is.places n low high) (or_right (n == root) (not (is_free v bytes n)) (ap not (ne_eqb (kind v bytes n) 0 used)))

  pub root_place : IsInPlace v bytes root
  root_place = place-fine v bytes root (is.places root (omega arith) (sizes v bytes is.sizes.sizes).some_inodes) refl

  -- the length of a content is its size
  pub content-long : (n : ℕ) → 1 ≤ n → n ≤ last → kind v bytes n ≢ 0 → length (content v bytes n) ≡ size v bytes n
  content-long n low high used =
      let there = append_each (λ k. (inode_blocks v last < k) × (k < block_number bytes)) (used_content v bytes n) (used_index v bytes n)
      (subst (AllByRecursion (λ k. (inode_blocks v last < k) × (k < block_number bytes))) (used-kind v bytes n used) (blocks n low high).in_data) in
      length-content v bytes n ((fine n low high).allowed used) (block_number bytes) (sizes v bytes is.sizes.sizes).long
      (each_weaker (λ k. (inode_blocks v last < k) × (k < block_number bytes)) (λ k. k < block_number bytes) (λ k both. both.1) (used_content v bytes n) there.0)

  -- ---- the nodes

  names-fine : (n : ℕ) → 1 ≤ n → n ≤ last → list_all (λ slot. is_name v (slot_name slot)) (slots_at v bytes n) ≡ true
  names-fine n low high =
      all_pass (λ slot. is_name v (slot_name slot)) (slots_at v bytes n)
      (each_weaker (IsFineSlot v bytes) (λ slot. is_name v (slot_name slot) ≡ true) (λ slot good. good.named) (slots_at v bytes n) (contents n low high).slots)

  link-fine : (n : ℕ) → 1 ≤ n → n ≤ last → kind v bytes n ≡ 4 → is_link_text (content v bytes n) ≡ true
  link-fine n low high link =
      let text = content v bytes n in
      let long : length text ≡ size v bytes n = content-long n low high (λ free. absurd (omega (arith, link, free))) in
      let bounds = (fine n low high).text link in
      let some : 1 ≤ size v bytes n = bounds.0 in
      let few : size v bytes n ≤ LINK_TEXT = bounds.1 in
      and_from (not (is_empty text) && nat_le (length text) LINK_TEXT) (list_all (λ b. not (b == 0)) text)
      (and_from (not (is_empty text)) (nat_le (length text) LINK_TEXT) (not_empty text (omega (arith, long, some))) (le-leb (length text) LINK_TEXT (omega (arith, long, few))))
      (all_not (λ b. b == 0) text ((contents n low high).text (eq-eqb (kind v bytes n) 4 link)))

  node-fine : (n : ℕ) (node : Node) → 1 ≤ n → n ≤ last → node_in v bytes n ≡ Some node → is_node v node ≡ true
  node-fine n node low high some =
      by_kind (λ k. kind v bytes n ≡ k → node_of k (entries_in v bytes (slots_at v bytes n)) (content v bytes n) ≡ Some node → is_node v node ≡ true)
      (λ here h. cc h)
      (λ here h.
      let same : directory_node (entries_in v bytes (slots_at v bytes n)) ≡ node = cc h in
      ap (is_node v) (sym same)
      ∙ and_from (is_sorted by_name (entries_in v bytes (slots_at v bytes n))) (list_all (λ e. is_name v e.0) (entries_in v bytes (slots_at v bytes n)))
      (sorted-put_all v bytes (slots_at v bytes n)) (tested-put_all v bytes (is_name v) (slots_at v bytes n) (names-fine n low high)))
      (λ here h. let same : file_node false (content v bytes n) ≡ node = cc h in ap (is_node v) (sym same))
      (λ here h. let same : file_node true (content v bytes n) ≡ node = cc h in ap (is_node v) (sym same))
      (λ here h. let same : link_node (content v bytes n) ≡ node = cc h in ap (is_node v) (sym same) ∙ link-fine n low high here)
      (kind v bytes n) (fine n low high).kinds refl some

  node-some : (n : ℕ) → 1 ≤ n → n ≤ last → kind v bytes n ≢ 0 → is_some (node_at t n) ≡ true
  node-some n low high used =
      ap is_some (node_at-in v bytes n low high)
      ∙ by_kind (λ k. kind v bytes n ≡ k → is_some (node_of k (entries_in v bytes (slots_at v bytes n)) (content v bytes n)) ≡ true)
      (λ free. absurd (used free)) (λ here. refl) (λ here. refl) (λ here. refl) (λ here. refl)
      (kind v bytes n) (fine n low high).kinds refl

  -- ---- directories

  record IsDirectoryIn (n : ℕ) : Type 0 where
    pub low : 1 ≤ n
    pub high : n ≤ last
    pub kind : kind v bytes n ≡ 1

  directory-in : (n : ℕ) → is_directory_at t n ≡ true → IsDirectoryIn n
  directory-in n dir =
      let node = directory-node (node_at t n) dir in
      let at = node-there v bytes n (directory_node node.0) node.1 in
      record {
        low = at.0;
        high = at.1;
        kind =
            by_kind (λ k. kind v bytes n ≡ k → node_of k (entries_in v bytes (slots_at v bytes n)) (content v bytes n) ≡ Some (directory_node node.0) → k ≡ 1)
            (λ here h. cc h) (λ here h. refl) (λ here h. cc h) (λ here h. cc h) (λ here h. cc h)
            (kind v bytes n) (fine n at.0 at.1).kinds refl at.2;
      }

  in-directory : (n : ℕ) → 1 ≤ n → n ≤ last → kind v bytes n ≡ 1 → is_directory_at t n ≡ true
  in-directory n low high here =
      ap is_directory (node_at-in v bytes n low high ∙ ap (λ k. node_of k (entries_in v bytes (slots_at v bytes n)) (content v bytes n)) here)

  record IsEntryIn (n : ℕ) : Type 0 where
    pub low : 1 ≤ n
    pub high : n ≤ last
    pub used : kind v bytes n ≢ 0

  entry-in : (d : ℕ) (name : Bytes) (n : ℕ) → find_entry t d name ≡ Some n → IsEntryIn n
  entry-in d name n found =
      let within = entry-within v bytes each_once n d name found in
      let slot = each_at (IsFineSlot v bytes) (λ slot. slot_number slot == n) (slots_at v bytes d) (contents d within.0 within.1).slots (entry-slot v bytes each_once n d name found) in
      let same : slot_number slot.0 ≡ n = eqb-true (slot_number slot.0) n slot.2 in
      let low : 1 ≤ slot_number slot.0 = slot.1.from_one in
      let high : slot_number slot.0 ≤ last = slot.1.in_table in
      record {
        low = omega (arith, low, same);
        high = omega (arith, high, same);
        used = λ free. let no : is_free v bytes n ≡ false = ap (is_free v bytes) (sym same) ∙ slot.1.used in let yes = eq-eqb (kind v bytes n) 0 free in cc;
      }

  count-other : (n : ℕ) → 1 ≤ n → n ≤ last → kind v bytes n ≢ 0 → n ≢ root → 1 ≤ name_count v bytes n
  count-other n low high used other =
      ⊎_elim
      (λ here. let one : name_count v bytes n ≡ 1 = eqb-true (name_count v bytes n) 1 (sym (directory-named v bytes n (name_count v bytes n) other here) ∙ (place n low high used).named) in omega (arith, one))
      (λ no. leb-true 1 (name_count v bytes n) (sym (other-named v bytes n (name_count v bytes n) other no) ∙ (place n low high used).named))
      (cases_eq (kind v bytes n) 1)

  few_names : (n : ℕ) → IsDirectoryIn n → length (names_of t n) ≤ 1
  few_names n dir =
      ⊎_elim
      (λ top.
      let none : name_count v bytes root ≡ 0 = (root-named v bytes (name_count v bytes root) root_place.named).1 in
      let same : name_count v bytes n ≡ name_count v bytes root = ap (name_count v bytes) top in
      omega (arith, as_many_names v bytes each_once n, none, same))
      (λ other.
      let used : kind v bytes n ≢ 0 = λ free. absurd (let one = dir.kind in omega (arith, one, free)) in
      let one : name_count v bytes n ≡ 1 =
      eqb-true (name_count v bytes n) 1 (sym (directory-named v bytes n (name_count v bytes n) other dir.kind) ∙ (place n dir.low dir.high used).named) in
      omega (arith, as_many_names v bytes each_once n, one))
      (cases_eq n root)

  pub unnamed-root : (n : ℕ) (node : Node) → node_at t n ≡ Some node → names_of t n ≡ [] → n ≡ root
  unnamed-root n node some none =
      let at = node-there v bytes n node some in
      ⊎_elim (λ same. same)
      (λ other.
      let more : 1 ≤ name_count v bytes n = count-other n at.0 at.1 (some-used v bytes n node at.2) other in
      absurd (omega (arith, as_many_names v bytes each_once n, ap length none, more)))
      (cases_eq n root)

  pub well_formed-in : IsWellFormed t
  well_formed-in = record {
    numbers = ap suc (length-map (range_with_len 1 last) (node_in v bytes) ∙ length-range_with_len 1 last);
    no_zero = refl;
    each_node = λ n node some. let at = node-there v bytes n node some in node-fine n node at.0 at.1 at.2;
    root_is_directory = in-directory root (omega arith) (sizes v bytes is.sizes.sizes).some_inodes (root-named v bytes (name_count v bytes root) root_place.named).0;
    root_is_unnamed = nil_from_length (names_of t root) (as_many_names v bytes each_once root ∙ (root-named v bytes (name_count v bytes root) root_place.named).1);
    entries_are_nodes = λ d name n found. let at = entry-in d name n found in node-some n at.low at.high at.used;
    directories_once = λ n dir. few_names n (directory-in n dir);
    named_are_reached = λ d name n found. let at = entry-in d name n found in within-reached v bytes each_once last n (place n at.low at.high at.used).reached;
    removed_are_empty = λ d dir none.
        let at = directory-in d dir in
        let removed = parent-none_named t d none in
        let used : kind v bytes d ≢ 0 = λ free. absurd (let one = at.kind in omega (arith, one, free)) in
        let entry = counted-entry v bytes each_once d (count-other d at.low at.high used removed.0) in
        absurd (removed.1 entry.0 entry.1 entry.2);
  }
