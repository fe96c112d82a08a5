-- Trees that calls change: their bytes, kinds and room.
use Rattle.std.proofs.Common.{◌≡◌, ℕ, suc, ◌<◌, ◌≤◌, true, false, ◌==◌, nat_le, List, [], length, drop, Option, None, Some, is_some, refl, ap, sym, ◌∙◌, ⊎_elim, arith}
use Rattle.std.proofs.lemmas.Bool.{and_parts, or_cases, or_left, leb-true, cases_eq, cases_lt, cases_Bool}
use Rattle.pv_model.specs.Machine.{Bytes, with_content, with_content_of, among, at_number, least_free, present, fits, is_too_long, is_file, State, with_tree, Entries, Node, directory_node, file_node, link_node, Tree, root, node_at, entries_of, is_directory, is_directory_at, find_entry, named_numbers, with_node, new_number, with_new_node, with_entry}
use Rattle.pv_laws_trees.specs.Preserved.{numbers_wanted, preserved}
use Rattle.pv_laws_trees.specs.Room.{IsNoLarger}
use Rattle.pv_laws_states.specs.States.{are_bytes, AllBytes, IsTree, IsValid}
pub use Rattle.pv_laws_trees.proofs.TreeBytes.{bytes-with_node, bytes-entries, bytes-with_entry, bytes-without_entry}
use Rattle.pv_laws_trees.proofs.TreeChanges.{node_at-same, node_at-other, directory-below}
use Rattle.pv_laws_trees.proofs.WellFormedChanges.{stays-content}
use Rattle.pv_laws_trees.proofs.NewNodes.{new-same, there-new, there-old, stays-new, named-new}
use Rattle.pv_laws_trees.proofs.NumberedMaps.{at_number-below, keep-some, keep-passes, least_free-below, least_free-within, present-all, present-drop, at_number-drop, length-drop_one}
use Rattle.pv_laws_trees.proofs.NodeRoom.{smaller-fits, smaller-not_too_long}
use Rattle.pv_laws_states.proofs.ChangedStates.{Carries, carries-self, solid-with_tree}
use Rattle.pv_laws_states.proofs.ProcessInsides.{IsReady}
use Rattle.pv_laws_trees.proofs.Trees.{ordered, among-entry, entry-among}
use Rattle.pv_laws_states.proofs.CollectedStates.{held_after, tree-collect}
use Rattle.pv_laws_trees.proofs.Collection.{wanted-is, wanted-named, wanted-held}
use Rattle.pv_laws_states.proofs.ValidStates.{HasRoom, has_room, solid}

-- ---- kinds

pub carries-with_node : (t : Tree) (m : ℕ) (node : Node) → m < length t.nodes
    → (is_some (node_at t m) ≡ true → (is_directory (Some node) ≡ is_directory_at t m) × (is_file (Some node) ≡ is_file (node_at t m))) → Carries t (with_node t m node)
carries-with_node t m node below same = record {
  version = refl;
  directory = λ n is. ⊎_elim
      (λ eq. ap is_directory (ap (node_at (with_node t m node)) eq ∙ node_at-same t m node below) ∙ (same (ap (λ k. is_some (node_at t k)) (sym eq) ∙ is)).0 ∙ ap (is_directory_at t) (sym eq))
      (λ other. ap is_directory (node_at-other t m node n below other)) (cases_eq n m);
  file = λ n is. ⊎_elim
      (λ eq. ap is_file (ap (node_at (with_node t m node)) eq ∙ node_at-same t m node below) ∙ (same (ap (λ k. is_some (node_at t k)) (sym eq) ∙ is)).1 ∙ ap (λ k. is_file (node_at t k)) (sym eq))
      (λ other. ap is_file (node_at-other t m node n below other)) (cases_eq n m);
}

pub directory-no_file : (o : Option Node) → is_directory o ≡ true → is_file o ≡ false
directory-no_file None is = cc
directory-no_file (Some (directory_node es)) is = refl
directory-no_file (Some (file_node executable bytes)) is = cc
directory-no_file (Some (link_node text)) is = cc

pub carries-entries : (t : Tree) (d : ℕ) (es : Entries) → is_directory_at t d ≡ true → Carries t (with_node t d (directory_node es))
carries-entries t d es dir = carries-with_node t d (directory_node es) (directory-below t d dir) (λ is. (sym dir, sym (directory-no_file (node_at t d) dir)))

-- ---- the bytes of a file

content_in : (t : Tree) → AllBytes t → (f : ℕ) (bytes : Bytes) → are_bytes bytes ≡ true → (o : Option Node) → node_at t f ≡ o → AllBytes (with_content_of t f o bytes) × Carries t (with_content_of t f o bytes)
content_in t all f bytes good None at = (all, carries-self t)
content_in t all f bytes good (Some (directory_node es)) at = (all, carries-self t)
content_in t all f bytes good (Some (link_node text)) at = (all, carries-self t)
content_in t all f bytes good (Some (file_node executable old)) at =
    let below = at_number-below t.nodes f (file_node executable old) at in
    (bytes-with_node t f (file_node executable bytes) below good all, carries-with_node t f (file_node executable bytes) below (λ is. (sym (ap is_directory at), sym (ap is_file at))))

pub tree-content : (t : Tree) → IsTree t → (f : ℕ) (bytes : Bytes) → are_bytes bytes ≡ true → IsTree (with_content t f bytes)
tree-content t is f bytes good = record { well_formed = stays-content t is.well_formed f bytes; bytes = (content_in t is.bytes f bytes good (node_at t f) refl).0 }

pub carries-content : (t : Tree) → IsTree t → (f : ℕ) (bytes : Bytes) → are_bytes bytes ≡ true → Carries t (with_content t f bytes)
carries-content t is f bytes good = (content_in t is.bytes f bytes good (node_at t f) refl).1

-- ---- states with other trees

pub ready-tree : (s : State) → IsValid s → (u : Tree) → IsTree u → Carries s.tree u → HasRoom (with_tree s u) → IsReady (with_tree s u)
ready-tree s whole u tree carries room = record { solid = solid-with_tree s u (solid s whole) tree carries; room = room }

pub ready-smaller : (s : State) → IsValid s → (u : Tree) → IsTree u → Carries s.tree u → IsNoLarger u s.tree → IsReady (with_tree s u)
ready-smaller s whole u tree carries less =
    ready-tree s whole u tree carries (has_room (with_tree s u) (smaller-fits s.tree u less whole.fits)
    (⊎_elim (λ long. let was = smaller-not_too_long s.tree u less long in let none = whole.not_too_long in cc) (λ short. short) (cases_Bool (is_too_long u))))

-- each node of a valid state is wanted
pub there-wanted : (s : State) → IsValid s → (n : ℕ) → is_some (node_at s.tree n) ≡ true → among (numbers_wanted s.tree (held_after s)) n ≡ true
there-wanted s whole n is = by (node_at s.tree n) refl is
  where
    by : (o : Option Node) → node_at s.tree n ≡ o → is_some o ≡ true → among (numbers_wanted s.tree (held_after s)) n ≡ true
    by None at is = cc
    by (Some node) at is =
        let same : node_at (preserved s.tree (held_after s)) n ≡ node_at s.tree n = ap (λ t. node_at t n) (sym (tree-collect s) ∙ ap (λ x. x.tree) whole.collected) in
        (keep-some (among (numbers_wanted s.tree (held_after s))) s.tree.nodes n node (same ∙ at)).0

-- ---- the number of a new node is within the inodes

module _ (s : State) (whole : IsValid s) (d : ℕ) (name : Bytes) (node : Node) (held : List ℕ) (dir : is_directory_at s.tree d ≡ true) (free : find_entry s.tree d name ≡ None)
    (bare : entries_of (Some node) ≡ []) (more : (n : ℕ) → among (held_after s) n ≡ true → among held n ≡ true) where
  abbrev t0 : Tree
  t0 = s.tree

  abbrev m0 : ℕ
  m0 = new_number s.tree

  abbrev t1 : Tree
  t1 = with_node s.tree m0 node

  abbrev u1 : Tree
  u1 = with_entry t1 d name m0

  module _ (within : m0 ≤ length s.tree.nodes) where
    wanted_one : (n : ℕ) → is_some (node_at t0 n) ≡ true → among (numbers_wanted u1 held) n ≡ true
    wanted_one n is =
        ⊎_elim (λ top. or_left (root == n) _ top)
        (λ rest. ⊎_elim
        (λ named. let found = among-entry t0 (ordered t0 whole.tree.well_formed.each_node) n named in wanted-named u1 held n (entry-among u1 found.0 found.1 n (stays-new t0 d name node dir free bare within found.0 found.1 n found.2)))
        (λ is_held. wanted-held u1 held n (more n is_held)) (or_cases (among (named_numbers t0) n) (among (held_after s) n) rest))
        (or_cases (root == n) _ (sym (wanted-is t0 (held_after s) n) ∙ there-wanted s whole n is))

    in_preserved : (n : ℕ) → is_some (node_at u1 n) ≡ true → among (numbers_wanted u1 held) n ≡ true → is_some (node_at (preserved u1 held) n) ≡ true
    in_preserved n is in' = ap is_some (keep-passes (among (numbers_wanted u1 held)) u1.nodes n in') ∙ is

    crowd : least_free (drop 1 s.tree.nodes) ≡ s.tree.inodes → (n : ℕ) → n < suc s.tree.inodes → is_some (at_number (drop 1 (preserved u1 held).nodes) n) ≡ true
    crowd full n below =
        ap is_some (sym (at_number-drop (preserved u1 held).nodes n))
        ∙ ⊎_elim
        (λ low. let old : is_some (node_at t0 (suc n)) ≡ true = ap is_some (at_number-drop s.tree.nodes n) ∙ least_free-below (drop 1 s.tree.nodes) n (omega arith) in
        in_preserved (suc n) (there-old t0 d name node dir free bare within (suc n) old) (wanted_one (suc n) old))
        (λ high. let last : suc n ≡ m0 = omega arith in
        in_preserved (suc n) (ap (λ k. is_some (node_at u1 k)) last ∙ there-new t0 d name node dir free bare within m0 (ap is_some (new-same t0 d name node dir free bare within)))
        (ap (among (numbers_wanted u1 held)) last ∙ wanted-named u1 held m0 (named-new t0 d name node dir free bare within)))
        (cases_lt n s.tree.inodes)

  pub new-below : fits (preserved (with_new_node s.tree d name node) held) ≡ true → new_number s.tree < length s.tree.nodes
  unfolding fits
  new-below fit =
      let numbers = whole.tree.well_formed.numbers in
      let rest : length (drop 1 s.tree.nodes) ≡ s.tree.inodes = length-drop_one s.tree.nodes s.tree.inodes numbers in
      let low = least_free-within (drop 1 s.tree.nodes) in
      ⊎_elim (λ below. below)
      (λ past.
      let within : m0 ≤ length s.tree.nodes = omega arith in
      let full : least_free (drop 1 s.tree.nodes) ≡ s.tree.inodes = omega arith in
      let many = present-all (drop 1 (preserved u1 held).nodes) (suc s.tree.inodes) (crowd within full) in
      let few = leb-true (length (present (preserved u1 held).nodes)) s.tree.inodes (and_parts (nat_le (length (present (preserved u1 held).nodes)) s.tree.inodes) _ fit).0 in
      absurd (omega (arith, many, few, present-drop (preserved u1 held).nodes)))
      (cases_lt m0 (length s.tree.nodes))
