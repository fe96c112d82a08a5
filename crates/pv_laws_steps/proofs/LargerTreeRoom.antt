-- The tree in a larger image is well-formed and has room.
use Rattle.std.proofs.Common.{◌≡◌, ℕ, suc, ◌+◌, ◌-◌, ◌*◌, ◌≤◌, Bool, true, false, not, ◌&&◌, ◌||◌, nat_le, nat_lt, List, [], ◌∷◌, length, flat_map, replicate, sum_by, codes, bytes_eq, Option, None, Some, is_some, refl, ap, ap₂, sym, subst, ◌∙◌, arith}
use Rattle.std.specs.List.{list_any, list_all}
use Rattle.std.specs.Cmp.Lexicographic.{slice_cmp}
use Rattle.std.specs.Ordering.{nat_cmp}
use Rattle.std.specs.FinMap.Entries.{is_sorted}
use Rattle.std.proofs.lemmas.Bool.{and_parts, and_from, or_parts, leb-true, le-leb, ltb-true, ltb-false}
use Rattle.std.proofs.lemmas.List.{length-append, length-replicate}
use Rattle.std.proofs.lemmas.List.Sums.{sum_by-cons}
use Rattle.pv_model.specs.declared.version.Version.{Version}
use Rattle.pv_model.specs.declared.version.Version.TheVariants.{V1, V2}
use Rattle.pv_model.specs.Machine.{Bytes, is_empty, present, node_length, need, greatest_length, is_too_long, fits, Node, directory_node, file_node, link_node, Tree, root, greatest_name, entries_of, names_in, names_of, is_name_byte, is_name, is_node, IsReached, from_root, by_entry, IsWellFormed}
use Rattle.pv_laws_trees.proofs.WalkPlaces.{list_all-weaker}
use Rattle.pv_laws_steps.proofs.PaddedMaps.{present-padded}
use Rattle.pv_laws_steps.proofs.LargerNeeds.{needs-five_times}
use Rattle.pv_laws_steps.proofs.LargerTrees.{enlarged, node-enlarged, entries-enlarged, directory-enlarged, found-enlarged, parent-enlarged, numbered-enlarged}

-- ---- names and nodes

name-second : (v : Version) (name : Bytes) → is_name v name ≡ true → is_name V2 name ≡ true
name-second v name is =
    let first = and_parts (not (is_empty name) && nat_le (length name) (greatest_name v) && list_all is_name_byte name && not (bytes_eq name (codes "."))) (not (bytes_eq name (codes ".."))) is in
    let second = and_parts (not (is_empty name) && nat_le (length name) (greatest_name v) && list_all is_name_byte name) (not (bytes_eq name (codes "."))) first.0 in
    let third = and_parts (not (is_empty name) && nat_le (length name) (greatest_name v)) (list_all is_name_byte name) second.0 in
    let fourth = and_parts (not (is_empty name)) (nat_le (length name) (greatest_name v)) third.0 in
    and_from _ _ (and_from _ _ (and_from _ _ (and_from _ _ fourth.0 (short v fourth.1)) third.1) second.1) first.1
  where
    short : (v : Version) → nat_le (length name) (greatest_name v) ≡ true → nat_le (length name) 255 ≡ true
    short V1 is = le-leb (length name) 255 (omega (arith, leb-true (length name) 60 is))
    short V2 is = is

node-second : (v : Version) (node : Node) → is_node v node ≡ true → is_node V2 node ≡ true
node-second v (directory_node es) is =
    let parts = and_parts (is_sorted (slice_cmp nat_cmp) es) (list_all (λ (e : Bytes × ℕ). is_name v e.0) es) is in
    and_from _ _ parts.0 (list_all-weaker (λ (e : Bytes × ℕ). is_name v e.0) (λ (e : Bytes × ℕ). is_name V2 e.0) (λ e good. name-second v e.0 good) es parts.1)
node-second v (file_node executable bytes) is = is
node-second v (link_node text) is = is

module _ (blocks inodes : ℕ) (t : Tree) where
  abbrev u : Tree
  u = enlarged blocks inodes t

  reached : (n : ℕ) → IsReached t n → IsReached u n
  reached _ from_root = from_root
  reached _ (by_entry d name n more found) = by_entry d name n (reached d more) (found-enlarged blocks inodes t d name ∙ found)

  names-enlarged : (n : ℕ) → names_of u n ≡ names_of t n
  names-enlarged n = ap (λ (ds : List (ℕ × Node)). flat_map (λ (d : ℕ × Node). names_in n (entries_of (Some d.1)) d.0) ds) (numbered-enlarged blocks inodes t)

  pub numbers-enlarged : length t.nodes ≡ suc t.inodes → t.inodes ≤ inodes → length u.nodes ≡ suc inodes
  numbers-enlarged numbers more =
      let k = inodes - t.inodes in
      length-append t.nodes (replicate k None) ∙ ap (λ n. length t.nodes + n) (length-replicate {A = Option Node} k None) ∙ omega (arith, numbers, more)

  pub well_formed-enlarged : t.inodes ≤ inodes → IsWellFormed t → IsWellFormed u
  well_formed-enlarged more fine =
      let at = node-enlarged blocks inodes t in
      let found = found-enlarged blocks inodes t in
      let dir = directory-enlarged blocks inodes t in
      record {
        numbers = numbers-enlarged fine.numbers more;
        no_zero = at 0 ∙ fine.no_zero;
        each_node = λ n node is. node-second t.version node (fine.each_node n node (sym (at n) ∙ is));
        root_is_directory = dir root ∙ fine.root_is_directory;
        root_is_unnamed = names-enlarged root ∙ fine.root_is_unnamed;
        entries_are_nodes = λ d name n is. ap is_some (at n) ∙ fine.entries_are_nodes d name n (sym (found d name) ∙ is);
        directories_once = λ n is. subst (λ (ns : List (ℕ × Bytes)). length ns ≤ 1) (sym (names-enlarged n)) (fine.directories_once n (sym (dir n) ∙ is));
        named_are_reached = λ d name n is. reached n (fine.named_are_reached d name n (sym (found d name) ∙ is));
        removed_are_empty = λ d is none. entries-enlarged blocks inodes t d ∙ fine.removed_are_empty d (sym (dir d) ∙ is) (sym (parent-enlarged blocks inodes t d) ∙ none);
      }

-- ---- room

abbrev pub needed : Version → Node → ℕ
needed v node = need v (node_length v node)

abbrev pub longer : Version → Node → Bool
longer v node = nat_lt (greatest_length v) (node_length v node)

needs-all : (v : Version) (ns : List Node) → sum_by (needed V2) ns ≤ 5 * sum_by (needed v) ns
needs-all v [] = omega arith
needs-all v (node ∷ ns) = omega (arith, sum_by-cons (needed V2) node ns, sum_by-cons (needed v) node ns, needs-five_times v node, needs-all v ns)

-- a length that the older version allows is not too long in version 2
pub length-second : (v : Version) (n : ℕ) → nat_lt (greatest_length v) n ≡ false → nat_lt (greatest_length V2) n ≡ false
length-second V1 n short = by (nat_lt 660480 n) refl
  where
    by : (b : Bool) → nat_lt 660480 n ≡ b → b ≡ false
    by true long = absurd (omega (arith, ltb-false 136192 n short, ltb-true 660480 n long))
    by false is = refl
length-second V2 n short = short

entries-second : (v : Version) (n : ℕ) → nat_lt (greatest_length v) (Rattle.pv_model.specs.Room.entry_length v * n) ≡ false → nat_lt (greatest_length V2) (260 * n) ≡ false
entries-second V1 n short = by (nat_lt 660480 (260 * n)) refl
  where
    by : (b : Bool) → nat_lt 660480 (260 * n) ≡ b → b ≡ false
    by true long = absurd (omega (arith, ltb-false 136192 (64 * n) short, ltb-true 660480 (260 * n) long))
    by false is = refl
entries-second V2 n short = short

longer-second : (v : Version) (node : Node) → longer v node ≡ false → longer V2 node ≡ false
longer-second v (directory_node es) short = entries-second v (length es) short
longer-second v (file_node executable bytes) short = length-second v (length bytes) short
longer-second v (link_node text) short = length-second v (length text) short

longer-all : (v : Version) (ns : List Node) → list_any (longer v) ns ≡ false → list_any (longer V2) ns ≡ false
longer-all v [] short = refl
longer-all v (node ∷ ns) short =
    let parts = or_parts (longer v node) (list_any (longer v) ns) short in
    ap₂ (λ (a b : Bool). a || b) (longer-second v node parts.0) (longer-all v ns parts.1)

module _ (blocks inodes : ℕ) (t : Tree) where
  present-enlarged : present (enlarged blocks inodes t).nodes ≡ present t.nodes
  present-enlarged = present-padded (inodes - t.inodes) t.nodes

  pub fits-enlarged : 5 * t.blocks ≤ blocks → t.inodes ≤ inodes → fits t ≡ true → fits (enlarged blocks inodes t) ≡ true
  unfolding fits
  fits-enlarged more_blocks more_inodes is =
      let parts = and_parts (nat_le (length (present t.nodes)) t.inodes) (nat_le (sum_by (needed t.version) (present t.nodes)) t.blocks) is in
      ap (λ (ns : List Node). nat_le (length ns) inodes && nat_le (sum_by (needed V2) ns) blocks) present-enlarged
      ∙ and_from (nat_le (length (present t.nodes)) inodes) (nat_le (sum_by (needed V2) (present t.nodes)) blocks)
      (le-leb (length (present t.nodes)) inodes (omega (arith, more_inodes, leb-true (length (present t.nodes)) t.inodes parts.0)))
      (le-leb (sum_by (needed V2) (present t.nodes)) blocks
      (omega (arith, more_blocks, needs-all t.version (present t.nodes), leb-true (sum_by (needed t.version) (present t.nodes)) t.blocks parts.1)))

  pub short-enlarged : is_too_long t ≡ false → is_too_long (enlarged blocks inodes t) ≡ false
  unfolding is_too_long
  short-enlarged is = ap (list_any (longer V2)) present-enlarged ∙ longer-all t.version (present t.nodes) is
