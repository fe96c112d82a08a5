-- The stored data of a tree with a new node.
use Rattle.std.proofs.Common.{◌≡◌, ◌≢◌, ℕ, ◌+◌, ◌<◌, true, List, length, None, Some, is_some, refl, ap, ap₂, sym, ◌∙◌, arith, ⊎_elim}
use Rattle.std.specs.Prelude.{slice_index, slice_set}
use Rattle.std.specs.FinMap.Entries.{find, put}
use Rattle.std.proofs.lemmas.Bool.{cases_eq}
use Rattle.std.proofs.lemmas.List.{length-set}
use Rattle.pv_model.specs.declared.kind.NewNode.{NewNode}
use Rattle.pv_model.specs.Machine.{Bytes, Node, directory_node, Tree, node_at, entries_at, is_directory, is_directory_at, find_entry, parent, with_node, with_entry, new_number, is_name, is_node}
use Rattle.pv_laws_trees.specs.Encoded.{are_bytes, has_bytes}
use Rattle.pv_laws_trees.specs.Tree.{IsSoundTree, Appears}
use Rattle.pv_laws_trees.proofs.Ancestors.{appears-reached}
use Rattle.pv_laws_trees.proofs.TreeChanges.{directory-below, node_at-other, with_entry-cases, with_entry-stays, found-with, still-there, directory_is_some}
use Rattle.pv_laws_trees.proofs.WellFormedChanges.{new_number-free, sound-with_new_node}
use Rattle.pv_laws_trees.proofs.DirectoryEntries.{by_name}
use Rattle.pv_laws_trees.proofs.TreeBytes.{bytes-with_node, bytes-with_entry}
use Rattle.pv_laws_trees.proofs.NumberedMaps.{length-with_number}
use Rattle.pv_laws_trees.proofs.Trees.{sound, entry-parent}
use Rattle.pv_tree.specs.Changes.{new_node}
use Rattle.pv_tree.specs.Rooms.{room_error}
use Rattle.pv_tree.specs.Present.{stored, HasTreeCounts, IsTied}
use Rattle.pv_tree.proofs.CarriedData.{carried}
use Rattle.pv_tree.proofs.CollectionCounts.{unnamed, read-same, read-other, preserved-more, preserved-named}
use Rattle.pv_tree.proofs.CollectedNodes.{collected-all, all-preserved}
use Rattle.pv_tree.proofs.LinkCounts.{one_if-same, one_if-other}
use Rattle.pv_laws_trees.proofs.NewNodes.{new-entries}
use Rattle.pv_tree.proofs.NodeCreation.{entries-one, directory-one, absent-one}
use Rattle.pv_laws_trees.proofs.NameCounts.{name_count, names-same}
use Rattle.pv_tree.proofs.NameCounts.{names-with_entry}
use Rattle.pv_tree.proofs.ParentChanges.{parent-same}

module _ (t : Tree) (parents names holds : List ℕ) (tied : IsTied t parents names holds) (d : ℕ) (name : Bytes) (k : NewNode)
    (appears : Appears t d) (free : find_entry t d name ≡ None) (good : is_name t.version name ≡ true) (fine : is_node t.version (new_node k) ≡ true)
    (encoded : are_bytes name ≡ true) (filled : has_bytes (new_node k) ≡ true) (below : new_number t < length t.nodes) where
  c : HasTreeCounts t parents names holds
  c = tied.counted

  s : IsSoundTree t
  s = sound t c.well_formed

  abbrev m : ℕ
  m = new_number t

  abbrev node : Node
  node = new_node k

  abbrev t1 : Tree
  t1 = with_node t m node

  abbrev u : Tree
  u = with_entry t1 d name m

  same-entries : (e : ℕ) → entries_at t1 e ≡ entries_at t e
  same-entries e = entries-one t c.well_formed c.short d name k appears.0 free fine e

  dir-one : is_directory_at t1 d ≡ true
  dir-one = directory-one t c.well_formed c.short d name k appears.0 free fine

  free-one : find_entry t1 d name ≡ None
  free-one = absent-one t c.well_formed c.short d name k appears.0 free fine

  same-found : (e : ℕ) (q : Bytes) → find_entry t1 e q ≡ find_entry t e q
  same-found e q = ap (find by_name q) (same-entries e)

  r : IsSoundTree u
  r = sound-with_new_node t s d name node appears.0 (appears-reached t s d appears.1) free good fine (new-entries k) below

  below-one : d < length t1.nodes
  below-one = directory-below t1 d dir-one

  abbrev entered : Node
  entered = directory_node (put by_name name m (entries_at t1 d))

  names-is : (x : ℕ) → name_count u x ≡ Rattle.pv_tree.proofs.DirectoryEntries.one_if m x + name_count t x
  names-is x =
      omega (arith, names-with_entry t1 x d name m dir-one free-one, names-same t t1 (length-with_number t.nodes m node below) same-entries x)

  -- nodes that existed still exist
  stays-there : (x : ℕ) → is_some (node_at t x) ≡ true → is_some (node_at u x) ≡ true
  stays-there x is = still-there t1 d entered below-one x (still-there t m node below x is)

  other-node : (x : ℕ) → x ≢ m → x ≢ d → node_at u x ≡ node_at t x
  other-node x apart away = node_at-other t1 d entered x below-one away ∙ node_at-other t m node x below apart

  was-there : (x : ℕ) → x ≢ m → is_some (node_at u x) ≡ true → is_some (node_at t x) ≡ true
  was-there x apart is =
      ⊎_elim (λ here. directory_is_some (node_at t x) (ap (is_directory_at t) here ∙ appears.0)) (λ away. ap is_some (sym (other-node x apart away)) ∙ is) (cases_eq x d)

  was-directory : (x : ℕ) → x ≢ m → is_directory_at u x ≡ true → is_directory_at t x ≡ true
  was-directory x apart is =
      ⊎_elim (λ here. ap (is_directory_at t) here ∙ appears.0) (λ away. ap is_directory (sym (other-node x apart away)) ∙ is) (cases_eq x d)

  no-names : name_count t m ≡ 0
  no-names = unnamed t parents names holds c m (ap is_some (new_number-free t))

  in-range : m < 4097
  in-range = omega (arith, c.well_formed.numbers, c.few)

  same-parent : (x : ℕ) → x ≢ m → is_directory_at u x ≡ true → parent u x ≡ parent t x
  same-parent x apart is =
      parent-same t u s r x is
      (λ e q found. with_entry-stays t1 d name dir-one m e q x (same-found e q ∙ found) (λ here same. let none = ap₂ (find_entry t) here same ∙ free in cc))
      (λ e q found. ⊎_elim (λ new. absurd (apart new.2)) (λ old. sym (same-found e q) ∙ old.1) (with_entry-cases t1 d name dir-one m e q x found))

  new-parent : is_directory_at u m ≡ true → parent u m ≡ Some d
  new-parent is = entry-parent u r m d name is (found-with t1 d name dir-one m)

  pub made-tied : room_error u ≡ None → IsTied u (slice_set parents m d) (slice_set names m 1) holds
  made-tied allowed =
      record {
        counted = carried t u parents names holds c (slice_set parents m d) (slice_set names m 1) holds r refl allowed
            (bytes-with_entry t1 d name m dir-one encoded (bytes-with_node t m node below filled c.bytes)) (length-set parents m d) (length-set names m 1) refl
            (λ x more. stays-there x (c.held_are_nodes x more))
            (λ x is.
            ⊎_elim
            (λ same. ap (slice_index (slice_set parents m d)) same ∙ read-same parents m d (omega (arith, in-range, c.places_of_parents))
            ∙ ap stored (sym (new-parent (ap (is_directory_at u) (sym same) ∙ is))) ∙ ap (λ y. stored (parent u y)) (sym same))
            (λ other. read-other parents m x d other ∙ c.parents_stored x (was-directory x other is) ∙ ap stored (sym (same-parent x other is)))
            (cases_eq x m))
            (λ x.
            ⊎_elim
            (λ same. ap (slice_index (slice_set names m 1)) same ∙ read-same names m 1 (omega (arith, in-range, c.places_of_names))
            ∙ omega (arith, names-is m, one_if-same m m refl, no-names) ∙ ap (name_count u) (sym same))
            (λ other. read-other names m x 1 other ∙ omega (arith, c.names_counted x, names-is x, one_if-other m x other))
            (cases_eq x m));
        is_collected = collected-all u holds (λ x is.
            ⊎_elim
            (λ same. preserved-named x (name_count u x) (slice_index holds x) (omega (arith, names-is x, one_if-same m x same)))
            (λ other. preserved-more x (name_count t x) (name_count u x) (slice_index holds x) (slice_index holds x)
            (omega (arith, names-is x)) (omega arith) (all-preserved t holds tied.is_collected x (was-there x other is)))
            (cases_eq x m));
      }
