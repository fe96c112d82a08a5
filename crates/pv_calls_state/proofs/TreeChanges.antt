-- Changes of the tree under unchanged references.
use Rattle.std.proofs.Common.{◌≡◌, ◌≢◌, ℕ, ◌+◌, ◌<◌, ◌≤◌, true, false, ◌==◌, List, [], length, drop, Option, None, Some, is_some, refl, ap, sym, subst, ◌∙◌, inl, inr, ◌⊎◌, ⊎_elim, arith, Result, Ok, Err}
use Rattle.std.specs.FinMap.Entries.{find}
use Rattle.std.proofs.lemmas.Bool.{cases_eq, or_cases, or_left}
use Rattle.std.proofs.lemmas.Result.{on_ok_weaker, on_err_weaker, IfErr-weaker}
use Rattle.pv_calls_state.specs.Changes.{ChangesTree}
use Rattle.pv_calls_state.specs.Counts.{state_of, IsCountedUp}
use Rattle.pv_files.specs.Counted.{Counted, IsCounted}
use Rattle.pv_procs.specs.OfTree.OfInodes.declared.space.Space.{Space}
use Rattle.pv_model.specs.declared.kind.NewNode.{NewNode}
use Rattle.pv_model.specs.Machine.{Bytes, with_content, with_content_of, among, collect, State, with_tree, Node, directory_node, file_node, link_node, Tree, root, node_at, entries_of, entries_at, is_directory, is_directory_at, find_entry, named_numbers, with_node, with_entry, new_number, with_new_node, IsWellFormed}
use Rattle.pv_procs.specs.ProcessTable.{ProcessTable}
use Rattle.pv_procs.specs.OfTree.Holding.{HeldTree, referenced_numbers, collected, after, held_with_tree as with_held}
use Rattle.pv_procs.specs.OfTree.Changes.{new_node}
use Rattle.pv_procs.specs.OfTree.Rooms.{room_error, HeldTreeChanges}
use Rattle.pv_procs.specs.OfTree.Present.{IsPresent}
use Rattle.pv_laws_trees.specs.Preserved.{numbers_wanted, preserved}
use Rattle.pv_laws_trees.proofs.TreeChanges.{node_at-same, node_at-other}
use Rattle.pv_laws_trees.proofs.WellFormedChanges.{new_number-free}
use Rattle.pv_laws_trees.proofs.DirectoryEntries.{by_name}
use Rattle.pv_laws_trees.proofs.Collection.{all_only_nodes, only_nodes_all, wanted-is, wanted-named, wanted-held}
use Rattle.pv_laws_trees.proofs.NewNodes.{entry-was, entry-stays, dir-new, stays-new, named-new, new-entries}
use Rattle.pv_laws_trees.proofs.NumberedMaps.{at_number-below, with_number-other_within, length-drop_one, least_free-within}
use Rattle.pv_laws_trees.proofs.Trees.{IsOrdered, ordered, among-entry, entry-among}
use Rattle.pv_calls_state.proofs.CollectionByCounts.{collect-parts}

-- ---- nodes that stay

-- more references keep at least the same nodes
pub wanted-more : (t : Tree) (few many : List ℕ) → ((n : ℕ) → among few n ≡ true → among many n ≡ true) → (n : ℕ) → among (numbers_wanted t few) n ≡ true → among (numbers_wanted t many) n ≡ true
wanted-more t few many more n is =
    ⊎_elim (λ top. or_left (root == n) _ top)
    (λ rest. ⊎_elim (λ named. wanted-named t many n named) (λ is_held. wanted-held t many n (more n is_held)) (or_cases (among (named_numbers t) n) (among few n) rest))
    (or_cases (root == n) _ (sym (wanted-is t few n) ∙ is))

module _ (t : Tree) (held : List ℕ) (o : IsOrdered t) (there : (n : ℕ) → is_some (node_at t n) ≡ true → among (numbers_wanted t held) n ≡ true) where
  -- if every entry stays and every new node has a name, no node is collected
  along-preserved : (u : Tree) → ((n : ℕ) → is_some (node_at u n) ≡ true → (is_some (node_at t n) ≡ true) ⊎ (among (named_numbers u) n ≡ true))
      → ((d : ℕ) (name : Bytes) (n : ℕ) → find_entry t d name ≡ Some n → find_entry u d name ≡ Some n) → preserved u held ≡ u
  along-preserved u was stay =
      only_nodes_all u (numbers_wanted u held) (λ n node at.
      ⊎_elim
      (λ old.
      ⊎_elim (λ top. or_left (root == n) _ top)
      (λ rest. ⊎_elim
      (λ named. let found = among-entry t o n named in wanted-named u held n (entry-among u found.0 found.1 n (stay found.0 found.1 n found.2)))
      (λ is_held. wanted-held u held n is_held) (or_cases (among (named_numbers t) n) (among held n) rest))
      (or_cases (root == n) _ (sym (wanted-is t held n) ∙ there n old)))
      (λ named. wanted-named u held n named)
      (was n (ap is_some at)))

  -- the tree with another name
  entry-preserved : (d : ℕ) (name : Bytes) (m : ℕ) → is_directory_at t d ≡ true → find_entry t d name ≡ None → preserved (with_entry t d name m) held ≡ with_entry t d name m
  entry-preserved d name m dir free = along-preserved (with_entry t d name m) (λ n is. inl (entry-was t d name dir free m n is)) (entry-stays t d name dir free m)

  -- the tree with other bytes in a file
  module _ (f : ℕ) (node was : Node) (at : node_at t f ≡ Some was) (entries : entries_of (Some node) ≡ entries_of (Some was)) where
    below : f < length t.nodes
    below = at_number-below t.nodes f was at

    same-entries : (e : ℕ) → entries_at (with_node t f node) e ≡ entries_at t e
    same-entries e =
        ⊎_elim
        (λ here. ap (entries_at (with_node t f node)) here ∙ ap entries_of (node_at-same t f node below) ∙ entries ∙ ap entries_of (sym at) ∙ ap (entries_at t) (sym here))
        (λ other. ap entries_of (node_at-other t f node e below other)) (cases_eq e f)

    node-preserved : preserved (with_node t f node) held ≡ with_node t f node
    node-preserved =
        along-preserved (with_node t f node)
        (λ n is. inl (⊎_elim (λ here. ap (λ k. is_some (node_at t k)) here ∙ ap is_some at) (λ other. ap is_some (sym (node_at-other t f node n below other)) ∙ is) (cases_eq n f)))
        (λ d name n found. ap (find by_name name) (same-entries d) ∙ found)

  all-wanted : preserved t held ≡ t
  all-wanted = only_nodes_all t (numbers_wanted t held) (λ n node at. there n (ap is_some at))

  content-preserved : (f : ℕ) (bytes : Bytes) → preserved (with_content t f bytes) held ≡ with_content t f bytes
  content-preserved f bytes = by (node_at t f) refl
    where
      by : (o : Option Node) → node_at t f ≡ o → preserved (with_content_of t f o bytes) held ≡ with_content_of t f o bytes
      by None at = all-wanted
      by (Some (directory_node es)) at = all-wanted
      by (Some (file_node executable old)) at = node-preserved f (file_node executable bytes) (file_node executable old) at refl
      by (Some (link_node text)) at = all-wanted

  -- the tree with a new node under a new name
  module _ (d : ℕ) (name : Bytes) (node : Node) (dir : is_directory_at t d ≡ true) (free : find_entry t d name ≡ None) (bare : entries_of (Some node) ≡ [])
      (within : new_number t ≤ length t.nodes) where
    abbrev m0 : ℕ
    m0 = new_number t

    new-other : (n : ℕ) → n ≢ m0 → node_at (with_node t m0 node) n ≡ node_at t n
    new-other n other = with_number-other_within t.nodes m0 node n within other

    apart : d ≢ m0
    apart here = let isnt : is_directory_at t d ≡ false = ap (is_directory_at t) here ∙ ap is_directory (new_number-free t) in cc

    free-new : find_entry (with_node t m0 node) d name ≡ None
    free-new = ap (λ o. find by_name name (entries_of o)) (new-other d apart) ∙ free

    new_within-preserved : preserved (with_new_node t d name node) held ≡ with_new_node t d name node
    new_within-preserved =
        along-preserved (with_new_node t d name node)
        (λ n is. ⊎_elim (λ here. inr (ap (among (named_numbers (with_new_node t d name node))) here ∙ named-new t d name node dir free bare within))
        (λ other. inl (ap is_some (sym (new-other n other)) ∙ entry-was (with_node t m0 node) d name (dir-new t d name node dir free bare within) free-new m0 n is)) (cases_eq n m0))
        (stays-new t d name node dir free bare within)

  pub new-preserved : length t.nodes ≡ t.inodes + 1 → (d : ℕ) (name : Bytes) (node : Node) → is_directory_at t d ≡ true → find_entry t d name ≡ None → entries_of (Some node) ≡ []
      → preserved (with_new_node t d name node) held ≡ with_new_node t d name node
  new-preserved numbers d name node dir free bare =
      new_within-preserved d name node dir free bare
      (omega (arith, least_free-within (drop 1 t.nodes), length-drop_one t.nodes t.inodes (omega arith), numbers))

-- ---- the same with counted references

counted-wanted : (t : Tree) (holds : List ℕ) → collected t holds ≡ t → (n : ℕ) → is_some (node_at t n) ≡ true → among (numbers_wanted t (referenced_numbers holds)) n ≡ true
counted-wanted t holds same n is = all_only_nodes t (numbers_wanted t (referenced_numbers holds)) same n is

pub preserved-entry : (t : Tree) (holds : List ℕ) → IsOrdered t → collected t holds ≡ t → (d : ℕ) (name : Bytes) (m : ℕ) → is_directory_at t d ≡ true → find_entry t d name ≡ None
    → collected (with_entry t d name m) holds ≡ with_entry t d name m
preserved-entry t holds o same = entry-preserved t (referenced_numbers holds) o (counted-wanted t holds same)

pub preserved-content : (t : Tree) (holds : List ℕ) → IsOrdered t → collected t holds ≡ t → (f : ℕ) (bytes : Bytes) → collected (with_content t f bytes) holds ≡ with_content t f bytes
preserved-content t holds o same = content-preserved t (referenced_numbers holds) o (counted-wanted t holds same)

-- ---- states with another tree

module _ (h : HeldTree) (c : Counted) (ps : ProcessTable) (s : State) (view : state_of h c ps ≡ s) (up : IsCountedUp h c ps) (is : IsCounted c) where
  same-tree : h.tree ≡ s.tree
  same-tree = ap (λ x. x.tree) view

  pub preserved-seen : IsPresent h → collected s.tree h.holds ≡ s.tree
  preserved-seen present = subst (λ t. collected t h.holds ≡ t) same-tree present.is_collected

  -- a state with another tree is collected like the tree
  pub collect-after : (u : Tree) → collect (with_tree s u) ≡ state_of (after h u) c ps
  collect-after u =
      ap (λ x. collect (with_tree x u)) (sym view)
      ∙ collect-parts (with_tree (state_of h c ps) u) (after h u) c ps (record { users = up.users; holds = up.holds }) is is.slots refl refl refl (λ k more. refl)

  module _ (change : Tree → Tree) where
    pub after-changed : (new : HeldTree) → new ≡ after h (change h.tree) → state_of new c ps ≡ collect (with_tree s (change s.tree))
    after-changed new same = ap (λ x. state_of x c ps) same ∙ ap (λ t. state_of (after h (change t)) c ps) same-tree ∙ sym (collect-after (change s.tree))

    after-room_error : room_error (collect (with_tree s (change s.tree))).tree ≡ room_error (collected (change h.tree) h.holds)
    after-room_error = ap (λ x. room_error x.tree) (collect-after (change s.tree)) ∙ ap (λ t. room_error (collected (change t) h.holds)) (sym same-tree)

    -- the outcome of a change of the tree after which nodes are collected
    pub after-outcome : {A : Type 0} (r : Result A Space) (new : HeldTree) → HeldTreeChanges r h new (after h (change h.tree)) → ChangesTree r s (state_of new c ps) (change s.tree)
    after-outcome r new o = record {
      ok = on_ok_weaker r (after-changed new) o.ok;
      err = on_err_weaker r (λ same. ap (λ x. state_of x c ps) same ∙ view) o.err;
      allowed = on_ok_weaker r (λ room. after-room_error ∙ room) o.allowed;
      refused = IfErr-weaker r _ _ (λ why no_room. after-room_error ∙ no_room) o.refused;
    }

    -- the same for a state from whose tree no node is collected
    module _ (preserved : collected (change s.tree) h.holds ≡ change s.tree) where
      preserved-before : collected (change h.tree) h.holds ≡ change h.tree
      preserved-before = subst (λ t. collected (change t) h.holds ≡ change t) (sym same-tree) preserved

      pub grown-outcome : {A : Type 0} (r : Result A Space) (new : HeldTree) → HeldTreeChanges r h new (with_held h (change h.tree)) → ChangesTree r s (state_of new c ps) (change s.tree)
      grown-outcome r new o = after-outcome r new (subst (λ t. HeldTreeChanges r h new (with_held h t)) (sym preserved-before) o)

      -- the same if the result has another value, or the error is passed on
      pub grown-ok : {A B : Type 0} (a : A) (b : B) (new : HeldTree) → HeldTreeChanges {A = A} (Ok a) h new (with_held h (change h.tree)) → ChangesTree {A = B} (Ok b) s (state_of new c ps) (change s.tree)
      grown-ok a b new o = let seen = grown-outcome (Ok a) new o in record { ok = seen.ok; err = tt; allowed = seen.allowed; refused = tt }

      pub grown-err : {A B : Type 0} (why : Space) (new : HeldTree) → HeldTreeChanges {A = A} (Err why) h new (with_held h (change h.tree)) → ChangesTree {A = B} (Err why) s (state_of new c ps) (change s.tree)
      grown-err why new o = let seen = grown-outcome (Err why) new o in record { ok = tt; err = seen.err; allowed = tt; refused = seen.refused }

pub ordered-seen : (t : Tree) → IsWellFormed t → IsOrdered t
ordered-seen t w = ordered t w.each_node

-- with a new node, every existing node stays
pub preserved-made : (t : Tree) (holds : List ℕ) → IsWellFormed t → collected t holds ≡ t → (d : ℕ) (name : Bytes) (k : NewNode) → is_directory_at t d ≡ true → find_entry t d name ≡ None
    → collected (with_new_node t d name (new_node k)) holds ≡ with_new_node t d name (new_node k)
preserved-made t holds w same d name k dir free =
    let numbers : length t.nodes ≡ t.inodes + 1 = omega (arith, w.numbers) in
    new-preserved t (referenced_numbers holds) (ordered-seen t w) (counted-wanted t holds same) numbers d name (new_node k) dir free (new-entries k)
