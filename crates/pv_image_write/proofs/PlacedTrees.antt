-- The tree that is written: its relation to the original tree, and that an image of it can be written.
use Rattle.std.proofs.Common.{◌≡◌, ℕ, zero, suc, ◌+◌, ◌-◌, ◌*◌, ◌/◌, ◌<◌, ◌≤◌, true, false, cond, not, ◌&&◌, ◌==◌, nat_le, List, [], ◌∷◌, ◌++◌, length, replicate, Option, None, Some, is_some, refl, ap, sym, subst, ◌∙◌, ⊎_elim, zero-add, arith}
use Rattle.std.specs.Prelude.{bytes_eq, codes, filter, flat_map, option_map, slice_get, sum_by}
use Rattle.std.specs.FinMap.Entries.{find, is_sorted}
use Rattle.std.specs.List.{list_all}
use Rattle.std.proofs.lemmas.Bool.{and_parts, and_from, cases_eq, le-leb, leb-true, leb-false}
use Rattle.std.proofs.lemmas.List.{append-nil, length-append, length-map, length-replicate}
use Rattle.std.proofs.lemmas.List.Sums.{sum_by-cons}
use Rattle.pv_model.specs.declared.limits.TheConstants.{INODES}
use Rattle.pv_model.specs.declared.version.Version.{Version}
use Rattle.pv_model.specs.declared.version.Version.TheVariants.{V1, V2}
use Rattle.pv_model.specs.Machine.{Bytes, is_empty, size_of, among, named_tree, inode_blocks, greatest_blocks, are_image_sizes, Numbered, at_number, present, numbered, numbered_from, entry_length, node_length, need, greatest_length, fits, Entries, Node, directory_node, file_node, link_node, Tree, root, node_at, entries_of, entries_at, is_directory, is_directory_at, find_entry, named_numbers, parent, names_in, names_of, greatest_name, is_name, is_name_byte, is_node, IsWellFormed}
use Rattle.pv_model.specs.Held.{only_nodes}
use Rattle.pv_model.specs.Tree.{first_parent}
use Rattle.pv_laws_trees.specs.Preserved.{preserved}
use Rattle.pv_laws_trees.specs.Room.{IsNoLarger}
use Rattle.pv_laws_trees.proofs.DirectoryEntries.{by_name}
use Rattle.pv_laws_trees.proofs.Collection.{only-sound, reached-along}
use Rattle.pv_laws_trees.proofs.NameCounts.{names-in_most, names-most}
use Rattle.pv_laws_trees.proofs.NumberedMaps.{at_number-below, length-keep}
use Rattle.pv_laws_trees.proofs.WalkPlaces.{list_all-weaker}
use Rattle.pv_laws_trees.proofs.NodeRoom.{preserved-no_larger, length-within, smaller-fits, greatest-low}
use Rattle.pv_laws_trees.proofs.Trees.{sound, well_formed}
use Rattle.pv_tree.specs.Holding.{HeldTree}
use Rattle.pv_tree.specs.Present.{IsPresent}
use Rattle.pv_tree.proofs.OfDirs.EqualParts.{name_length}
use Rattle.pv_image_write.specs.Placed.{lengthened, placed, written_at, named_need}
use Rattle.pv_image_write.specs.Encoding.{node_content, content_of, taken, taken_of, taken_before}
use Rattle.pv_image_write.specs.Writable.{IsWritable, names_end}
use Rattle.pv_image_write.proofs.NodeContents.{EachOf, HasShortName, length-node_content}
use Rattle.pv_image_write.proofs.EntryLists.{named-at, all-get}
use Rattle.pv_image_write.proofs.NamedTrees.{preserved_numbers, covers, as_written-was, as_written-none, names-preserved}

-- ---- numbers without nodes

nothing-at : (m n : ℕ) → at_number {X = Node} (replicate m None) n ≡ None
nothing-at zero n = refl
nothing-at (suc m) zero = refl
nothing-at (suc m) (suc n) = nothing-at m n

at_number-lengthened : (m : ℕ) (xs : Numbered Node) (n : ℕ) → at_number (xs ++ replicate m None) n ≡ at_number xs n
at_number-lengthened m [] n = nothing-at m n
at_number-lengthened m (x ∷ xs) zero = refl
at_number-lengthened m (x ∷ xs) (suc n) = at_number-lengthened m xs n

nothing-numbered : (k m : ℕ) → numbered_from {X = Node} k (replicate m None) ≡ []
nothing-numbered k zero = refl
nothing-numbered k (suc m) = nothing-numbered (suc k) m

numbered-lengthened : (k m : ℕ) (xs : Numbered Node) → numbered_from k (xs ++ replicate m None) ≡ numbered_from k xs
numbered-lengthened k m [] = nothing-numbered k m
numbered-lengthened k m (None ∷ xs) = numbered-lengthened (suc k) m xs
numbered-lengthened k m (Some x ∷ xs) = ap (λ (ps : List (ℕ × Node)). (k, x) ∷ ps) (numbered-lengthened (suc k) m xs)

nothing-present : (m : ℕ) → present {X = Node} (replicate m None) ≡ []
nothing-present zero = refl
nothing-present (suc m) = nothing-present m

present-lengthened : (m : ℕ) (xs : Numbered Node) → present (xs ++ replicate m None) ≡ present xs
present-lengthened m [] = nothing-present m
present-lengthened m (None ∷ xs) = present-lengthened m xs
present-lengthened m (Some x ∷ xs) = ap (λ (ys : List Node). x ∷ ys) (present-lengthened m xs)

-- ---- another version

name-fits : (old new : Version) (name : Bytes) → greatest_name old ≤ greatest_name new → is_name old name ≡ true → is_name new name ≡ true
name-fits old new name more is =
    let not_up = not (bytes_eq name (codes "..")) in
    let not_dot = not (bytes_eq name (codes ".")) in
    let first = and_parts _ not_up is in
    let second = and_parts _ not_dot first.0 in
    let third = and_parts _ (list_all is_name_byte name) second.0 in
    let fourth = and_parts (not (is_empty name)) (nat_le (length name) (greatest_name old)) third.0 in
    let short : nat_le (length name) (greatest_name new) ≡ true = le-leb (length name) (greatest_name new) (omega (arith, leb-true (length name) (greatest_name old) fourth.1)) in
    and_from _ not_up (and_from _ not_dot (and_from _ (list_all is_name_byte name) (and_from _ _ fourth.0 short) third.1) second.1) first.1

node-fits : (old new : Version) (node : Node) → greatest_name old ≤ greatest_name new → is_node old node ≡ true → is_node new node ≡ true
node-fits old new (directory_node es) more is =
    let parts = and_parts (is_sorted by_name es) _ is in
    and_from _ _ parts.0 (list_all-weaker (λ (e : Bytes × ℕ). is_name old e.0) (λ (e : Bytes × ℕ). is_name new e.0) (λ e. name-fits old new e.0 more) es parts.1)
node-fits old new (file_node executable bytes) more is = refl
node-fits old new (link_node text) more is = is

length-fits : (old new : Version) (node : Node) → greatest_name old ≤ greatest_name new → node_length old node ≤ greatest_length old → node_length new node ≤ greatest_length new
length-fits V1 V1 node more short = short
length-fits V2 V2 node more short = short
length-fits V2 V1 node more short = absurd (omega (arith, more))
length-fits V1 V2 (directory_node es) more short = omega arith
length-fits V1 V2 (file_node executable bytes) more short = omega arith
length-fits V1 V2 (link_node text) more short = omega arith

-- the blocks that are taken are those that are needed
pub need-taken : (v : Version) (size : ℕ) → size ≤ greatest_length v → need v size ≡ taken size
unfolding need
need-taken V1 size short =
    let b = (size + 511) / 512 in
    elim (nat_le b 10) as (λ x. nat_le b 10 ≡ x → b + cond x 0 1 ≡ taken size) [
      | true ↦ λ is. omega (arith, leb-true b 10 is)
      | false ↦ λ is. omega (arith, leb-false b 10 is)
    ] refl
need-taken V2 size short = refl

-- ---- the number of names

entries-needed : (node : Node) → length (entries_of (Some node)) ≤ 8 * need V1 (node_length V1 node)
unfolding need
entries-needed (directory_node es) = omega arith
entries-needed (file_node executable bytes) = omega arith
entries-needed (link_node text) = omega arith

names-bounded : (n k : ℕ) (xs : Numbered Node)
    → length (flat_map (λ d. names_in n (entries_of (Some d.1)) d.0) (numbered_from k xs)) ≤ 8 * sum_by (λ node. need V1 (node_length V1 node)) (present xs)
names-bounded n k [] = omega arith
names-bounded n k (None ∷ xs) = names-bounded n (suc k) xs
names-bounded n k (Some node ∷ xs) =
    omega (
      arith,
      length-append (names_in n (entries_of (Some node)) k) (flat_map (λ d. names_in n (entries_of (Some d.1)) d.0) (numbered_from (suc k) xs)),
      names-in_most n k (entries_of (Some node)),
      entries-needed node,
      sum_by-cons (λ other. need V1 (node_length V1 other)) node (present xs),
      names-bounded n (suc k) xs,
    )

total-need : Tree → ℕ
total-need t = sum_by (λ node. need t.version (node_length t.version node)) (present t.nodes)

fits-parts : (t : Tree) → fits t ≡ true → (nat_le (length (present t.nodes)) t.inodes && nat_le (total-need t) t.blocks) ≡ true
unfolding fits total-need
fits-parts t is = is

-- ---- room

pub taken-as : (v : Version) (o : Option Node) → taken_of v o ≡ taken (length (content_of v o))
taken-as v None = refl
taken-as v (Some node) = refl

-- no node takes more blocks than contents of the maximum length
pub taken-few : (v : Version) (o : Option Node) → length (content_of v o) ≤ greatest_length v → taken_of v o ≤ 1295
taken-few v o short = omega (arith, taken-as v o, greatest-low v)

pub taken_before-few : (u : Tree) → ((n : ℕ) → taken_of u.version (node_at u n) ≤ 1295) → (n : ℕ) → taken_before u n ≤ 1295 * n
taken_before-few u few zero = omega arith
taken_before-few u few (suc n) = omega (arith, few n, taken_before-few u few n)

taken-needed : (u : Tree) → ((n : ℕ) (node : Node) → node_at u n ≡ Some node → taken (length (node_content u.version node)) ≡ need u.version (node_length u.version node))
    → (xs : Numbered Node) (j : ℕ) → ((i : ℕ) → at_number xs i ≡ node_at u (j + i))
    → taken_before u (j + length xs) ≡ taken_before u j + sum_by (λ node. need u.version (node_length u.version node)) (present xs)
taken-needed u needs [] j same = let none : j + 0 ≡ j = omega arith in omega (arith, ap (taken_before u) none)
taken-needed u needs (o ∷ xs) j same =
    let start : j + 0 ≡ j = omega arith in
    let end : suc j + length xs ≡ j + suc (length xs) = omega arith in
    let here : o ≡ node_at u j = same 0 ∙ ap (node_at u) start in
    let rest = taken-needed u needs xs (suc j) (λ i. let next : j + suc i ≡ suc j + i = omega arith in same (suc i) ∙ ap (node_at u) next) in
    sym (ap (taken_before u) end) ∙ rest ∙ by o here
  where
    by : (p : Option Node) → p ≡ node_at u j
        → taken_before u j + taken_of u.version (node_at u j) + sum_by (λ node. need u.version (node_length u.version node)) (present xs)
        ≡ taken_before u j + sum_by (λ node. need u.version (node_length u.version node)) (present (p ∷ xs))
    by None is = omega (arith, ap (taken_of u.version) is)
    by (Some node) is =
        omega (arith, ap (taken_of u.version) is, needs j node (sym is), sum_by-cons (λ other. need u.version (node_length u.version other)) node (present xs))

module _ (h : HeldTree) (s : IsPresent h) (v : Version) (blocks inodes : ℕ) where
  module _ (more_inodes : h.tree.inodes ≤ inodes) (longer_names : greatest_name h.tree.version ≤ greatest_name v) where
    pub node-placed : (n : ℕ) → node_at (placed h.tree v blocks inodes) n ≡ written_at h.tree n
    unfolding placed written_at
    node-placed n = at_number-lengthened (suc inodes - length (named_tree h.tree).nodes) (named_tree h.tree).nodes n

    numbered-placed : numbered (placed h.tree v blocks inodes).nodes ≡ numbered (named_tree h.tree).nodes
    unfolding placed
    numbered-placed = numbered-lengthened 0 (suc inodes - length (named_tree h.tree).nodes) (named_tree h.tree).nodes

    names-as : (n : ℕ) → names_of (placed h.tree v blocks inodes) n ≡ names_of (named_tree h.tree) n
    names-as n = ap (λ (ps : List (ℕ × Node)). flat_map (λ d. names_in n (entries_of (Some d.1)) d.0) ps) numbered-placed

    pub names-placed : (n : ℕ) → length (names_of (placed h.tree v blocks inodes) n) ≡ length (names_of h.tree n)
    names-placed n = ap (λ (ns : List (ℕ × Bytes)). length ns) (names-as n) ∙ names-preserved h.tree s.well_formed n

    named-well_formed : IsWellFormed (named_tree h.tree)
    named-well_formed = well_formed (named_tree h.tree) (only-sound h.tree (preserved_numbers h.tree) (sound h.tree s.well_formed) (covers h.tree))

    node-as : (n : ℕ) → node_at (placed h.tree v blocks inodes) n ≡ node_at (named_tree h.tree) n
    unfolding written_at
    node-as n = node-placed n

    find-as : (d : ℕ) (name : Bytes) → find_entry (placed h.tree v blocks inodes) d name ≡ find_entry (named_tree h.tree) d name
    find-as d name = ap (λ o. find by_name name (entries_of o)) (node-as d)

    parent-as : (n : ℕ) → parent (placed h.tree v blocks inodes) n ≡ parent (named_tree h.tree) n
    unfolding parent
    parent-as n = ap (λ (ps : List (ℕ × Node)). cond (n == root) (Some root) (first_parent n ps)) numbered-placed

    -- a written node is a node of the tree
    pub was-there : (n : ℕ) (node : Node) → node_at (placed h.tree v blocks inodes) n ≡ Some node → node_at h.tree n ≡ Some node
    was-there n node at = as_written-was h.tree n node (sym (node-placed n) ∙ at)

    length-placed : length (placed h.tree v blocks inodes).nodes ≡ suc inodes
    unfolding placed
    length-placed =
        let xs = (named_tree h.tree).nodes in
        let long = named-well_formed.numbers in
        length-append xs (replicate (suc inodes - length xs) None) ∙ ap (λ k. length xs + k) (length-replicate {A = Option Node} (suc inodes - length xs) None)
        ∙ omega (arith, long, more_inodes)

    inodes-placed : (placed h.tree v blocks inodes).inodes ≡ inodes
    unfolding placed
    inodes-placed = refl

    version-placed : (placed h.tree v blocks inodes).version ≡ v
    unfolding placed
    version-placed = refl

    pub placed-well_formed : IsWellFormed (placed h.tree v blocks inodes)
    placed-well_formed =
        let w = named-well_formed in
        record {
          numbers = length-placed ∙ ap suc (sym inodes-placed);
          no_zero = node-as 0 ∙ w.no_zero;
          each_node = λ n node at.
              subst (λ (x : Version). is_node x node ≡ true) (sym version-placed) (node-fits h.tree.version v node longer_names (s.well_formed.each_node n node (was-there n node at)));
          root_is_directory = ap is_directory (node-as root) ∙ w.root_is_directory;
          root_is_unnamed = names-as root ∙ w.root_is_unnamed;
          entries_are_nodes = λ d name n is. ap is_some (node-as n) ∙ w.entries_are_nodes d name n (sym (find-as d name) ∙ is);
          directories_once = λ n is. subst (λ (ns : List (ℕ × Bytes)). length ns ≤ 1) (sym (names-as n)) (w.directories_once n (ap is_directory (sym (node-as n)) ∙ is));
          named_are_reached = λ d name n is.
              reached-along (named_tree h.tree) (placed h.tree v blocks inodes) (λ e other m found. find-as e other ∙ found) n (w.named_are_reached d name n (sym (find-as d name) ∙ is));
          removed_are_empty = λ d is none.
              ap entries_of (node-as d) ∙ w.removed_are_empty d (ap is_directory (sym (node-as d)) ∙ is) (sym (parent-as d) ∙ none);
        }

    nothing : (xs : List (ℕ × Bytes)) → xs ≡ [] → length xs ≡ 0
    nothing xs none = ap (λ (ys : List (ℕ × Bytes)). length ys) none

    pub placed-named : (n : ℕ) (node : Node) → node_at (placed h.tree v blocks inodes) n ≡ Some node → names_of (placed h.tree v blocks inodes) n ≡ [] → n ≡ root
    placed-named n node at none =
        ⊎_elim (λ same. same)
        (λ other. let gone = sym (node-placed n) ∙ at in let free = as_written-none h.tree n other (sym (names-placed n) ∙ nothing (names_of (placed h.tree v blocks inodes) n) none) in absurd (cc (gone, free)))
        (cases_eq n root)

    -- ---- lengths

    short-names : (n : ℕ) (node : Node) → node_at h.tree n ≡ Some node → EachOf (HasShortName v) node
    short-names n (directory_node es) at = λ i e is.
        let same : entries_at h.tree n ≡ es = ap entries_of at in
        let there = ap (λ (fs : Entries). slice_get fs i) same ∙ is in
        let here = name_length h.tree.version e.0 (all-get (λ (f : Bytes × ℕ). is_name h.tree.version f.0) (entries_at h.tree n) i e (named-at h.tree n s.well_formed) there) in
        omega (arith, here, longer_names)
    short-names n (file_node executable bytes) at = tt
    short-names n (link_node text) at = tt

    pub length-node : (n : ℕ) (node : Node) → node_at h.tree n ≡ Some node → length (node_content v node) ≡ node_length v node
    length-node n node at = length-node_content v node (short-names n node at)

    node-short : (n : ℕ) (node : Node) → node_at h.tree n ≡ Some node → node_length v node ≤ greatest_length v
    node-short n node at = length-fits h.tree.version v node longer_names (length-within h.tree n node at s.short)

    content-short : (n : ℕ) (o : Option Node) → written_at h.tree n ≡ o → length (content_of v o) ≤ greatest_length v
    content-short n None at = omega arith
    content-short n (Some node) at =
        let was = as_written-was h.tree n node at in
        subst (λ k. k ≤ greatest_length v) (sym (length-node n node was)) (node-short n node was)

    pub placed-short : (n : ℕ) → length (content_of v (written_at h.tree n)) ≤ greatest_length v
    placed-short n = content-short n (written_at h.tree n) refl

    -- the length of contents, by the size that stat(2) reports
    pub directory-length : (n size : ℕ) → is_directory_at h.tree n ≡ true → option_map size_of (node_at h.tree n) ≡ Some size → length (content_of v (node_at h.tree n)) ≡ entry_length v * size
    directory-length n size is written = by (node_at h.tree n) refl is written
      where
        by : (o : Option Node) → node_at h.tree n ≡ o → is_directory o ≡ true → option_map size_of o ≡ Some size → length (content_of v o) ≡ entry_length v * size
        by None at dir many = cc
        by (Some (directory_node es)) at dir many = let same : length es ≡ size = cc in length-node n (directory_node es) at ∙ ap (λ k. entry_length v * k) same
        by (Some (file_node executable bytes)) at dir many = cc
        by (Some (link_node text)) at dir many = cc

    pub slots-length : (n : ℕ) → is_directory_at h.tree n ≡ true → length (content_of v (node_at h.tree n)) ≡ entry_length v * length (entries_at h.tree n)
    slots-length n is = by (node_at h.tree n) refl is
      where
        by : (o : Option Node) → node_at h.tree n ≡ o → is_directory o ≡ true → length (content_of v o) ≡ entry_length v * length (entries_of o)
        by None at dir = cc
        by (Some (directory_node es)) at dir = length-node n (directory_node es) at
        by (Some (file_node executable bytes)) at dir = cc
        by (Some (link_node text)) at dir = cc

    pub other-length : (n size : ℕ) → is_directory_at h.tree n ≡ false → option_map size_of (node_at h.tree n) ≡ Some size → length (content_of v (node_at h.tree n)) ≡ size
    other-length n size other written = by (node_at h.tree n) other written
      where
        by : (o : Option Node) → is_directory o ≡ false → option_map size_of o ≡ Some size → length (content_of v o) ≡ size
        by None plain many = cc
        by (Some (directory_node es)) plain many = cc
        by (Some (file_node executable bytes)) plain many = cc
        by (Some (link_node text)) plain many = cc

    pub content-allowed : (n : ℕ) → length (content_of v (node_at h.tree n)) ≤ greatest_length v
    content-allowed n = by (node_at h.tree n) refl
      where
        by : (o : Option Node) → node_at h.tree n ≡ o → length (content_of v o) ≤ greatest_length v
        by None at = omega arith
        by (Some node) at = subst (λ k. k ≤ greatest_length v) (sym (length-node n node at)) (node-short n node at)

    -- ---- the number of names

    placed-counted-as : (old new : Version) → old ≡ h.tree.version → greatest_name old ≤ greatest_name new → (n : ℕ) → length (names_of h.tree n) < names_end new
    unfolding total-need
    placed-counted-as V1 V1 same more n =
        let room = and_parts (nat_le (length (present h.tree.nodes)) h.tree.inodes) _ (fits-parts h.tree s.fits) in
        let needs = leb-true (total-need h.tree) h.tree.blocks room.1 in
        let needs_1 : sum_by (λ node. need V1 (node_length V1 node)) (present h.tree.nodes) ≤ h.tree.blocks =
        subst (λ (x : Version). sum_by (λ node. need x (node_length x node)) (present h.tree.nodes) ≤ h.tree.blocks) (sym same) needs in
        let allowed : inode_blocks V1 h.tree.inodes + 1 + h.tree.blocks ≤ greatest_blocks V1 =
        subst (λ (x : Version). inode_blocks x h.tree.inodes + 1 + h.tree.blocks ≤ greatest_blocks x) (sym same) s.allowed in
        omega (arith, names-bounded n 0 h.tree.nodes, needs_1, allowed)
    placed-counted-as V2 V1 same more n = absurd (omega (arith, more))
    placed-counted-as V1 V2 same more n = omega (arith, names-most h.tree s.short n, s.well_formed.numbers, s.few)
    placed-counted-as V2 V2 same more n = omega (arith, names-most h.tree s.short n, s.well_formed.numbers, s.few)

    pub placed-counted : (n : ℕ) → length (names_of h.tree n) < names_end v
    placed-counted n = placed-counted-as h.tree.version v refl longer_names n

    -- ---- room

    needed-as : (n : ℕ) (node : Node) → node_at (placed h.tree v blocks inodes) n ≡ Some node → taken (length (node_content v node)) ≡ need v (node_length v node)
    needed-as n node at =
        let was = was-there n node at in
        ap taken (length-node n node was) ∙ sym (need-taken v (node_length v node) (node-short n node was))

    pub placed-needs : taken_before (placed h.tree v blocks inodes) (suc inodes) ≡ named_need h.tree v
    unfolding placed named_need
    placed-needs =
        let xs = (placed h.tree v blocks inodes).nodes in
        let long : suc inodes ≡ 0 + length xs = omega (arith, length-placed) in
        ap (taken_before (placed h.tree v blocks inodes)) long
        ∙ taken-needed (placed h.tree v blocks inodes) needed-as xs 0 (λ i. let start : i ≡ 0 + i = omega arith in ap (node_at (placed h.tree v blocks inodes)) start)
        ∙ zero-add _
        ∙ ap (sum_by (λ node. need v (node_length v node))) (present-lengthened (suc inodes - length (named_tree h.tree).nodes) (named_tree h.tree).nodes)

    pub placed-writable : are_image_sizes v blocks inodes ≡ true → inode_blocks v inodes + 1 + named_need h.tree v ≤ blocks → IsWritable (placed h.tree v blocks inodes)
    unfolding placed
    placed-writable sizes room =
        let first = and_parts _ (nat_le blocks (greatest_blocks v)) sizes in
        let second = and_parts _ (nat_le (inode_blocks v inodes + 1) blocks) first.0 in
        let third = and_parts (nat_le 1 inodes) (nat_le inodes INODES) second.0 in
        let few = leb-true inodes INODES third.1 in
        let most = leb-true blocks (greatest_blocks v) first.1 in
        let least = leb-true (inode_blocks v inodes + 1) blocks second.1 in
        record {
          well_formed = placed-well_formed;
          each_named = placed-named;
          few = few;
          allowed = omega (arith, most, least);
          short = λ n. subst (λ o. length (content_of v o) ≤ greatest_length v) (sym (node-placed n)) (placed-short n);
          counted = λ n. subst (λ k. k < names_end v) (sym (names-placed n)) (placed-counted n);
          room = omega (arith, placed-needs, room);
        }

-- ---- the sizes of the tree itself

nothing-more : (n : ℕ) (xs : Numbered Node) → length xs ≡ n → lengthened n xs ≡ xs
nothing-more n xs long =
    let none : n - length xs ≡ 0 = omega arith in
    ap (λ k. xs ++ replicate k None) none ∙ append-nil xs

pub placed-itself : (t : Tree) → length t.nodes ≡ suc t.inodes → placed t t.version (inode_blocks t.version t.inodes + 1 + t.blocks) t.inodes ≡ named_tree t
unfolding placed
placed-itself t long =
    let nodes = nothing-more (suc t.inodes) (named_tree t).nodes (length-keep (among (preserved_numbers t)) t.nodes ∙ long) in
    let blocks : inode_blocks t.version t.inodes + 1 + t.blocks - (inode_blocks t.version t.inodes + 1) ≡ t.blocks = omega arith in
    λ i. record { nodes = nodes i; blocks = blocks i; inodes = t.inodes; version = t.version }

named-as-preserved : (t : Tree) → named_tree t ≡ preserved t []
named-as-preserved t = ap (only_nodes t) (ap (λ (ns : List ℕ). root ∷ ns) (sym (append-nil (named_numbers t))))

-- the named nodes fit if all do
pub named-fits : (t : Tree) → fits t ≡ true → named_need t t.version ≤ t.blocks
unfolding named_need total-need
named-fits t is =
    let less = subst (λ (x : Tree). IsNoLarger x t) (sym (named-as-preserved t)) (preserved-no_larger t []) in
    let room = and_parts (nat_le (length (present (named_tree t).nodes)) t.inodes) _ (fits-parts (named_tree t) (smaller-fits t (named_tree t) less is)) in
    leb-true (total-need (named_tree t)) t.blocks room.1

pub own-sizes : (h : HeldTree) → IsPresent h → are_image_sizes h.tree.version (inode_blocks h.tree.version h.tree.inodes + 1 + h.tree.blocks) h.tree.inodes ≡ true
own-sizes h s =
    let t = h.tree in
    let i = inode_blocks t.version t.inodes in
    and_from _ _
    (and_from _ _
    (and_from _ _ (le-leb 1 t.inodes (some-inodes (node_at t root) refl s.well_formed.root_is_directory)) (le-leb t.inodes INODES s.few))
    (le-leb (i + 1) (i + 1 + t.blocks) (omega arith)))
    (le-leb (i + 1 + t.blocks) (greatest_blocks t.version) s.allowed)
  where
    some-inodes : (o : Option Node) → node_at h.tree root ≡ o → is_directory o ≡ true → 1 ≤ h.tree.inodes
    some-inodes None at is = cc
    some-inodes (Some node) at is = omega (arith, at_number-below h.tree.nodes root node at, s.well_formed.numbers)
