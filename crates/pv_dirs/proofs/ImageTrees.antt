-- The tree in the bytes of an image.
use Rattle.std.proofs.Common.{◌≡◌, ◌≢◌, ℕ, zero, suc, ◌+◌, ◌*◌, ◌-◌, ◌/◌, ◌<◌, ◌≤◌, true, false, cond, ◌==◌, List, [], ◌∷◌, ◌++◌, map, length, get_or, Option, None, Some, refl, ap, sym, subst, ◌∙◌, arith}
use Rattle.std.specs.Prelude.{option_map}
use Rattle.std.specs.FinMap.Entries.{is_sorted}
use Rattle.std.specs.List.{flat_map, list_all, range_with_len, AllByRecursion, IsDistinct as AreApart}
use Rattle.std.specs.List.Sorted.{IsPermutation}
use Rattle.std.proofs.lemmas.Bool.{eq-eqb, ne_eqb, and_parts}
use Rattle.std.proofs.lemmas.List.{same_lists, get_or_default, get_or-map, length-map}
use Rattle.std.proofs.lemmas.List.FromFn.{length-map-range_with_len, get_or-map-range_with_len}
use Rattle.std.proofs.lemmas.List.Sorted.{Contains-permutation}
use Rattle.pv_model.specs.declared.kind.Kind.TheVariants.{Directory, File, Executable, Symlink}
use Rattle.pv_model.specs.declared.version.Version.{Version}
use Rattle.pv_model.specs.declared.version.Version.TheVariants.{V1, V2}
use Rattle.pv_model.specs.Machine.{Bytes, field, magic, greatest_blocks, inode_blocks, size, content, used_content, used_index, used_blocks, AreSlots, Holds, HoldsAny, IsImageOf, kind, Numbered, at_number, numbered_from, greatest_length, Entries, Node, directory_node, file_node, link_node, Tree, node_at, is_name, is_node}
use Rattle.pv_model.specs.Effect.{sort_number}
use Rattle.pv_model.specs.Image.{HasContent}
use Rattle.pv_model.specs.Mount.{used_by}
use Rattle.pv_inodes.proofs.NumberMaps.{at_number-get_or, at_number-within}
use Rattle.pv_inodes.specs.Files.{Contained, Files, held, kind_of_number}
use Rattle.pv_inodes.specs.Images.{all_used_blocks, AreInodes, contained, files_in}
use Rattle.pv_dirs.specs.Images.{IsImage}
use Rattle.pv_dirs.specs.Slots.{slot_at, slot_count, name_in_slot, inode_in_slot, slot_entry, slot_entries, in_order, IsSlotted}
use Rattle.pv_dirs.specs.Trees.{node_from, node_of_contained, tree_of_files, IsHolding}
use Rattle.pv_dirs.proofs.SortedEntries.{by_name}
use Rattle.pv_dirs.proofs.EntryOrders.{distinct_permuted, in_order-permuted}
use Rattle.pv_dirs.proofs.SlotBytes.{length-slot_entries, get_or-slot_entries}
use Rattle.pv_dirs.proofs.ImageSlots.{encoded_are, measured_are}

-- ---- the version, and the number of inodes

magic_at : Version → ℕ
magic_at v = get_or (magic v) 7 0

magic_once : (u v : Version) → magic_at u ≡ magic_at v → u ≡ v
unfolding magic_at
magic_once V1 V1 same = refl
magic_once V1 V2 same = absurd (omega arith)
magic_once V2 V1 same = absurd (omega arith)
magic_once V2 V2 same = refl

-- two trees of one image have the same version
pub one_version : (bytes : Bytes) (t u : Tree) → IsImageOf bytes t → IsImageOf bytes u → t.version ≡ u.version
unfolding magic_at
one_version bytes t u is also = magic_once t.version u.version (ap (λ (xs : Bytes). get_or xs 7 0) (sym is.has_magic ∙ also.has_magic))

-- ---- the contents of inodes

some_once : {X : Type 0} {a b : X} → Some a ≡ Some b → a ≡ b
some_once {X} {a} {b} same = ap (or_first a) same
  where
    or_first : X → Option X → X
    or_first d None = d
    or_first d (Some x) = x

sort_few : (node : Node) → (1 ≤ sort_number node) × (sort_number node ≤ 4)
sort_few (directory_node es) = (omega arith, omega arith)
sort_few (file_node false bytes) = (omega arith, omega arith)
sort_few (file_node true bytes) = (omega arith, omega arith)
sort_few (link_node text) = (omega arith, omega arith)

module _ (v : Version) (bytes : Bytes) (n : ℕ) where
  abbrev contained_as : ℕ → Option Contained
  contained_as k = cond (k == 0) None (Some (record { sort = kind_of_number k; bytes = content v bytes n }))

  contained_is : (k : ℕ) → kind v bytes n ≡ k → contained v bytes n ≡ contained_as k
  contained_is k is = ap contained_as is

  contained_node : (node : Node) → kind v bytes n ≡ sort_number node → contained v bytes n ≡ Some (record { sort = kind_of_number (sort_number node); bytes = content v bytes n })
  contained_node (directory_node es) is = contained_is 1 is
  contained_node (file_node false contained) is = contained_is 2 is
  contained_node (file_node true contained) is = contained_is 3 is
  contained_node (link_node text) is = contained_is 4 is

  used_by_as : ℕ → List ℕ
  used_by_as k = cond (k == 0) [] (used_content v bytes n ++ used_index v bytes n)

-- the encoding of the entries of a directory
pub record Encodes (v : Version) (bytes : Bytes) (es : Entries) : Type 0 where
  pub in_order_is : in_order (slot_entries v bytes) ≡ es
  pub slotted : IsSlotted v bytes

encodes : (v : Version) (bytes : Bytes) (es : Entries) → (listed : Entries) × AreSlots v bytes listed × IsPermutation listed es → is_node v (directory_node es) ≡ true → Encodes v bytes es
encodes v bytes es has is =
    let listed = has.0 in
    let read = encoded_are v bytes listed has.1 in
    let parts = and_parts (is_sorted by_name es) (list_all (λ e. is_name v e.0) es) is in
    let slots = length-slot_entries v bytes in
    record {
      in_order_is = ap in_order read.0 ∙ in_order-permuted listed es has.2 parts.0;
      slotted = record {
        whole = read.1;
        named = λ k within.
            let e = slot_entry v bytes k in
            let at : get_or listed k e ≡ e = ap (λ (xs : Entries). get_or xs k e) (sym read.0) ∙ get_or-slot_entries v bytes k e within in
            let there = Contains-permutation listed es e has.2 (k, omega (arith, ap (λ (xs : Entries). length xs) read.0), at) in
            named_at es there.0 e parts.1 there.1 there.2;
        measured = measured_are v bytes listed has.1;
        distinct = subst (λ (xs : Entries). Rattle.pv_dirs.specs.Slots.IsDistinct xs) (sym read.0) (distinct_permuted listed es has.2 parts.0);
      };
    }
  where
    named_at : (fs : Entries) (j : ℕ) (e : Bytes × ℕ) → list_all (λ f. is_name v f.0) fs ≡ true → j < length fs → get_or fs j e ≡ e → is_name v e.0 ≡ true
    named_at [] j e all within at = absurd (omega arith)
    named_at (f ∷ fs) zero e all within at =
        sym (ap (λ (x : Bytes × ℕ). is_name v x.0) at) ∙ (and_parts (is_name v f.0) (list_all (λ g. is_name v g.0) fs) all).0
    named_at (f ∷ fs) (suc j) e all within at = named_at fs j e (and_parts (is_name v f.0) (list_all (λ g. is_name v g.0) fs) all).1 (omega arith) at

-- an inode has the contents of the node
node_held : (v : Version) (bytes : Bytes) (t : Tree) (n : ℕ) (node : Node) → t.version ≡ v → kind v bytes n ≡ sort_number node → HasContent v bytes n node → is_node v node ≡ true
    → option_map (node_of_contained v) (contained v bytes n) ≡ Some node
unfolding node_from
node_held v bytes t n (directory_node es) version is has valid =
    ap (option_map (node_of_contained v)) (contained_node v bytes n (directory_node es) is) ∙ ap (λ (fs : Entries). Some (directory_node fs)) (encodes v (content v bytes n) es has valid).in_order_is
node_held v bytes t n (file_node false xs) version is has valid =
    ap (option_map (node_of_contained v)) (contained_node v bytes n (file_node false xs) is) ∙ ap (λ (ys : Bytes). Some (file_node false ys)) has
node_held v bytes t n (file_node true xs) version is has valid =
    ap (option_map (node_of_contained v)) (contained_node v bytes n (file_node true xs) is) ∙ ap (λ (ys : Bytes). Some (file_node true ys)) has
node_held v bytes t n (link_node text) version is has valid =
    ap (option_map (node_of_contained v)) (contained_node v bytes n (link_node text) is) ∙ ap (λ (ys : Bytes). Some (link_node ys)) has

-- ---- the blocks that they use

module _ {X : Type 0} (f g : ℕ → List ℕ) where
  -- at each number in use both are equal, and elsewhere the second has no value
  abbrev Agree : ℕ → Numbered X → Type 0
  Agree a xs = (k : ℕ) → k < length xs → ((at_number xs k ≡ None) → g (a + k) ≡ []) × ((x : X) → at_number xs k ≡ Some x → g (a + k) ≡ f (a + k))

  agree_after : (a : ℕ) (o : Option X) (xs : Numbered X) → Agree a (o ∷ xs) → Agree (suc a) xs
  agree_after a o xs agree k within =
      let place : suc a + k ≡ a + suc k = omega arith in
      let here = agree (suc k) (omega arith) in
      (λ free. ap g place ∙ here.0 free, λ x there. ap g place ∙ here.1 x there ∙ ap f (sym place))

  numbered_flat : (a : ℕ) (xs : Numbered X) → Agree a xs → flat_map (λ e. f e.0) (numbered_from a xs) ≡ flat_map g (range_with_len a (length xs))
  numbered_flat a [] agree = refl
  numbered_flat a (None ∷ xs) agree =
      let next : suc a ≡ a + 1 = omega arith in
      let place : a ≡ a + 0 = omega arith in
      numbered_flat (suc a) xs (agree_after a None xs agree)
      ∙ ap (λ b. flat_map g (range_with_len b (length xs))) next
      ∙ sym (ap (λ (ys : List ℕ). ys ++ flat_map g (range_with_len (a + 1) (length xs))) (ap g place ∙ (agree 0 (omega arith)).0 refl))
  numbered_flat a (Some x ∷ xs) agree =
      let next : suc a ≡ a + 1 = omega arith in
      let place : a ≡ a + 0 = omega arith in
      ap (λ (ys : List ℕ). f a ++ ys) (numbered_flat (suc a) xs (agree_after a (Some x) xs agree) ∙ ap (λ b. flat_map g (range_with_len b (length xs))) next)
      ∙ ap (λ (ys : List ℕ). ys ++ flat_map g (range_with_len (a + 1) (length xs))) (sym (ap g place ∙ (agree 0 (omega arith)).1 x refl ∙ ap f (sym place)))

-- ---- the tree

module _ (bytes : Bytes) (t : Tree) (is : IsImageOf bytes t) where
  abbrev v : Version
  v = t.version

  abbrev uses : ℕ → List ℕ
  uses n = used_content v bytes n ++ used_index v bytes n

  pub count_is : length bytes / 512 ≡ field bytes 8 2
  count_is = omega (arith, is.all_blocks)

  kind_free : (n : ℕ) → 1 ≤ n → n ≤ t.inodes → node_at t n ≡ None → kind v bytes n ≡ 0
  kind_free n from below free = subst (HoldsAny v bytes t n) free (is.each_inode n from below)

  holds : (n : ℕ) (node : Node) → 1 ≤ n → n ≤ t.inodes → node_at t n ≡ Some node → Holds v bytes t n node
  holds n node from below there = subst (HoldsAny v bytes t n) there (is.each_inode n from below)

  pub kinds : (n : ℕ) → 1 ≤ n → n ≤ t.inodes → kind v bytes n ≤ 4
  kinds n from below = by (node_at t n) refl
    where
      by : (o : Option Node) → node_at t n ≡ o → kind v bytes n ≤ 4
      by None free = omega (arith, kind_free n from below free)
      by (Some node) there = omega (arith, (holds n node from below there).kind, (sort_few node).1)

  pub sizes : (n : ℕ) → 1 ≤ n → n ≤ t.inodes → 0 < kind v bytes n → size v bytes n ≤ greatest_length v
  sizes n from below used = by (node_at t n) refl
    where
      by : (o : Option Node) → node_at t n ≡ o → size v bytes n ≤ greatest_length v
      by None free = absurd (omega (arith, kind_free n from below free))
      by (Some node) there = (holds n node from below there).length_allowed

  used_none : (n : ℕ) → 1 ≤ n → n ≤ t.inodes → node_at t n ≡ None → used_by v bytes n ≡ []
  used_none n from below free = ap (λ b. cond b [] (uses n)) (eq-eqb (kind v bytes n) 0 (kind_free n from below free))

  used_some : (n : ℕ) (node : Node) → 1 ≤ n → n ≤ t.inodes → node_at t n ≡ Some node → used_by v bytes n ≡ uses n
  used_some n node from below there =
      let some : kind v bytes n ≢ 0 = λ none. omega (arith, (holds n node from below there).kind, (sort_few node).0) in
      ap (λ b. cond b [] (uses n)) (ne_eqb (kind v bytes n) 0 some)

  used_same : used_blocks bytes t ≡ all_used_blocks v bytes t.inodes
  used_same = by t.nodes refl
    where
      by : (xs : Numbered Node) → t.nodes ≡ xs → flat_map (λ e. uses e.0) (numbered_from 0 xs) ≡ all_used_blocks v bytes t.inodes
      by [] nodes = absurd (omega (arith, is.well_formed.numbers, ap (λ (xs : Numbered Node). length xs) nodes))
      by (Some node ∷ xs) nodes =
          let first : Some node ≡ None = sym (ap (λ (ys : Numbered Node). at_number ys 0) nodes) ∙ is.well_formed.no_zero in
          cc
      by (None ∷ xs) nodes =
          let long : length xs ≡ t.inodes = omega (arith, is.well_formed.numbers, ap (λ (ys : Numbered Node). length ys) nodes) in
          numbered_flat uses (used_by v bytes) 1 xs (λ k within.
          let next : 1 + k ≡ suc k = omega arith in
          let at : at_number xs k ≡ node_at t (1 + k) = ap (λ (ys : Numbered Node). at_number ys (suc k)) (sym nodes) ∙ ap (node_at t) (sym next) in
          (λ free. used_none (1 + k) (omega arith) (omega arith) (sym at ∙ free), λ node there. used_some (1 + k) node (omega arith) (omega arith) (sym at ∙ there)))
          ∙ ap (λ n. flat_map (used_by v bytes) (range_with_len 1 n)) long

  pub are_inodes : AreInodes v bytes t.inodes
  are_inodes = record {
    kinds = kinds;
    sizes = sizes;
    in_data = subst (AllByRecursion (λ k. (inode_blocks v t.inodes < k) × (k < length bytes / 512))) used_same
        (subst (λ n. AllByRecursion (λ k. (inode_blocks v t.inodes < k) × (k < n)) (used_blocks bytes t)) (sym count_is) is.in_data);
    used_once = subst (AreApart ◌==◌) used_same is.used_once;
  }

  valid : (n : ℕ) (node : Node) → node_at t n ≡ Some node → is_node v node ≡ true
  valid n node there = is.well_formed.each_node n node there

  node_is : (n : ℕ) → 1 ≤ n → n ≤ t.inodes → option_map (node_of_contained v) (contained v bytes n) ≡ node_at t n
  node_is n from below = by (node_at t n) refl
    where
      by : (o : Option Node) → node_at t n ≡ o → option_map (node_of_contained v) (contained v bytes n) ≡ node_at t n
      by None free = ap (option_map (node_of_contained v)) (contained_is v bytes n 0 (kind_free n from below free)) ∙ sym free
      by (Some node) there =
          let h = holds n node from below there in
          node_held v bytes t n node refl h.kind h.has_content (valid n node there) ∙ sym there

  pub tree_is : tree_of_files (files_in v bytes t.inodes) ≡ t
  unfolding tree_of_files files_in
  tree_is =
      let reported = length-map-range_with_len (contained v bytes) 1 t.inodes in
      let all : Numbered Node = map (option_map (node_of_contained v)) (None ∷ map (contained v bytes) (range_with_len 1 t.inodes)) in
      let long : length all ≡ suc t.inodes = omega (arith, reported, length-map (map (contained v bytes) (range_with_len 1 t.inodes)) (option_map (node_of_contained v))) in
      let nodes : all ≡ t.nodes = same_lists all t.nodes (long ∙ sym is.well_formed.numbers) each in
      let sizes_are : length bytes / 512 - (inode_blocks v t.inodes + 1) ≡ t.blocks = omega (arith, count_is, is.data_blocks) in
      let inodes_are : suc (length (map (contained v bytes) (range_with_len 1 t.inodes))) - 1 ≡ t.inodes = omega (arith, reported) in
      λ i. record { nodes = nodes i; blocks = sizes_are i; inodes = inodes_are i; version = v }
    where
      each : (k : ℕ) (d : Option Node) → k < length (map (option_map (node_of_contained v)) (None ∷ map (contained v bytes) (range_with_len 1 t.inodes)))
          → get_or (map (option_map (node_of_contained v)) (None ∷ map (contained v bytes) (range_with_len 1 t.inodes))) k d ≡ get_or t.nodes k d
      each zero d within =
          let some : 0 < length t.nodes = omega (arith, is.well_formed.numbers) in
          sym is.well_formed.no_zero ∙ at_number-get_or t.nodes 0 ∙ get_or_default t.nodes 0 None d some
      each (suc k) d within =
          let reported = length-map-range_with_len (contained v bytes) 1 t.inodes in
          let below : k < t.inodes = omega (arith, within, reported, length-map (map (contained v bytes) (range_with_len 1 t.inodes)) (option_map (node_of_contained v))) in
          let some : suc k < length t.nodes = omega (arith, is.well_formed.numbers) in
          get_or-map (option_map (node_of_contained v)) (map (contained v bytes) (range_with_len 1 t.inodes)) k None d (omega (arith, reported))
          ∙ ap (option_map (node_of_contained v)) (get_or-map-range_with_len (contained v bytes) 1 t.inodes k (suc k) None below (omega arith))
          ∙ node_is (suc k) (omega arith) (omega arith)
          ∙ at_number-get_or t.nodes (suc k) ∙ get_or_default t.nodes (suc k) None d some

  -- ---- the invariant of directories

  held_in : (n : ℕ) (c : Contained) → held (files_in v bytes t.inodes) n ≡ Some c → (1 ≤ n) × (n ≤ t.inodes) × (contained v bytes n ≡ Some c)
  unfolding files_in
  held_in zero c there = cc
  held_in (suc k) c there =
      let reported = length-map-range_with_len (contained v bytes) 1 t.inodes in
      let within = at_number-within (map (contained v bytes) (range_with_len 1 t.inodes)) k c there in
      let below : k < t.inodes = omega (arith, within, reported) in (
        omega arith,
        omega arith,
        sym (at_number-get_or (map (contained v bytes) (range_with_len 1 t.inodes)) k ∙ get_or-map-range_with_len (contained v bytes) 1 t.inodes k (suc k) None below (omega arith)) ∙ there,
      )

  slotted_as : (n : ℕ) (node : Node) (c : Contained) → HasContent v bytes n node → is_node v node ≡ true → record { sort = kind_of_number (sort_number node); bytes = content v bytes n } ≡ c → c.sort ≡ Directory → IsSlotted v c.bytes
  slotted_as n (directory_node es) c has good same sort = subst (IsSlotted v) (ap (λ (x : Contained). x.bytes) same) (encodes v (content v bytes n) es has good).slotted
  slotted_as n (file_node false xs) c has good same sort = let file : File ≡ Directory = ap (λ (x : Contained). x.sort) same ∙ sort in cc
  slotted_as n (file_node true xs) c has good same sort = let file : Executable ≡ Directory = ap (λ (x : Contained). x.sort) same ∙ sort in cc
  slotted_as n (link_node text) c has good same sort = let file : Symlink ≡ Directory = ap (λ (x : Contained). x.sort) same ∙ sort in cc

  slotted : (n : ℕ) (c : Contained) → held (files_in v bytes t.inodes) n ≡ Some c → c.sort ≡ Directory → IsSlotted v c.bytes
  slotted n c there sort = by (node_at t n) refl
    where
      by : (o : Option Node) → node_at t n ≡ o → IsSlotted v c.bytes
      by None free =
          let h = held_in n c there in
          let none : Some c ≡ None = sym h.2 ∙ contained_is v bytes n 0 (kind_free n h.0 h.1 free) in
          cc
      by (Some node) at =
          let h = held_in n c there in
          let reported = holds n node h.0 h.1 at in
          let both : Some (record { sort = kind_of_number (sort_number node); bytes = content v bytes n }) ≡ Some c = sym (contained_node v bytes n node reported.kind) ∙ h.2 in
          slotted_as n node c reported.has_content (valid n node at) (some_once both) sort

  numbers : t.inodes ≡ suc (length (map (contained v bytes) (range_with_len 1 t.inodes))) - 1
  numbers = let reported = length-map-range_with_len (contained v bytes) 1 t.inodes in omega (arith, reported)

  pub holding : (block_count : ℕ) → block_count ≡ t.blocks → IsHolding (files_in v bytes t.inodes) block_count
  unfolding files_in
  holding block_count counted = record {
    sized = omega (arith, count_is, is.data_blocks);
    slotted = slotted;
    allowed =
        subst (λ n. inode_blocks v n + 1 + block_count ≤ greatest_blocks v) numbers (omega (arith, counted, is.data_blocks, is.blocks_allowed.1));
  }

-- ---- the same for an image of this version

module _ (v : Version) (inodes : ℕ) (bytes : Bytes) (image : IsImage v inodes bytes) where
  pub image-files : files_in image.tree.version bytes image.tree.inodes ≡ files_in v bytes inodes
  image-files = ap (λ (u : Version). files_in u bytes image.tree.inodes) image.of_version ∙ ap (files_in v bytes) image.has_inodes

  pub image-inodes : AreInodes v bytes inodes
  image-inodes =
      subst (λ n. AreInodes v bytes n) image.has_inodes (subst (λ (u : Version). AreInodes u bytes image.tree.inodes) image.of_version (are_inodes bytes image.tree image.is_image))

  -- the sizes
  pub record HasSizes : Type 0 where
    pub whole : length bytes ≡ 512 * field bytes 8 2
    pub few : field bytes 8 2 ≤ 65535
    pub few_inodes : inodes ≤ 4096
    pub table : inode_blocks v inodes + 1 ≤ field bytes 8 2
    pub data_blocks : 1 + inode_blocks v inodes + image.tree.blocks ≡ field bytes 8 2

  greatest_few : (u : Version) → greatest_blocks u ≤ 65535
  greatest_few V1 = omega arith
  greatest_few V2 = omega arith

  pub image-sizes : HasSizes
  image-sizes =
      let is = image.is_image in
      let tables : inode_blocks image.tree.version image.tree.inodes ≡ inode_blocks v inodes = ap (λ (u : Version). inode_blocks u image.tree.inodes) image.of_version ∙ ap (inode_blocks v) image.has_inodes in
      record {
        whole = is.all_blocks;
        few = omega (arith, is.blocks_allowed.1, greatest_few image.tree.version);
        few_inodes = omega (arith, is.inodes_allowed.1, image.has_inodes);
        table = omega (arith, is.blocks_allowed.0, tables);
        data_blocks = omega (arith, is.data_blocks, tables);
      }

  pub image-holding : (block_count : ℕ) → block_count ≡ image.tree.blocks → IsHolding (files_in v bytes inodes) block_count
  image-holding block_count counted = subst (λ (f : Files). IsHolding f block_count) image-files (holding bytes image.tree image.is_image block_count counted)

  -- the tree is that of the bytes
  pub image-tree : (t : Tree) → IsImageOf bytes t → tree_of_files (files_in v bytes inodes) ≡ t
  image-tree t is =
      let version : t.version ≡ v = one_version bytes t image.tree is image.is_image ∙ image.of_version in
      let numbers : t.inodes ≡ inodes = sym is.all_inodes ∙ image.is_image.all_inodes ∙ image.has_inodes in
      ap tree_of_files (sym (ap (λ (u : Version). files_in u bytes t.inodes) version ∙ ap (files_in v bytes) numbers)) ∙ tree_is bytes t is
