-- A new node under a new name: named nodes stay named.
use Rattle.std.proofs.Common.{◌≡◌, ◌≢◌, ℕ, ◌≤◌, true, false, [], length, Option, None, Some, is_some, refl, ap, ap₂, sym, ◌∙◌, inl, inr, ◌⊎◌, ⊎_elim}
use Rattle.std.specs.FinMap.Entries.{find, put}
use Rattle.std.proofs.lemmas.Bool.{cases_eq}
use Rattle.pv_model.specs.declared.kind.NewNode.{NewNode}
use Rattle.pv_model.specs.declared.kind.NewNode.TheVariants.{Directory, File, Executable, Symlink}
use Rattle.pv_model.specs.Machine.{Bytes, among, Node, directory_node, Tree, node_at, entries_of, entries_at, is_directory, is_directory_at, find_entry, named_numbers, with_node, new_number, with_new_node, with_entry}
use Rattle.pv_laws_trees.specs.NewNodes.{new_node}
use Rattle.pv_laws_trees.specs.Preserved.{EachIsNamed}
use Rattle.pv_laws_trees.proofs.TreeChanges.{node_at-other, directory-below, found-with, with_entry-stays, still-there}
use Rattle.pv_laws_trees.proofs.WellFormedChanges.{new_number-free}
use Rattle.pv_laws_trees.proofs.DirectoryEntries.{by_name}
use Rattle.pv_laws_trees.proofs.NumberedMaps.{with_number-same_within, with_number-other_within}
use Rattle.pv_laws_trees.proofs.Trees.{IsOrdered, among-entry, entry-among}

-- a new node has no entries
pub new-entries : (k : NewNode) → entries_of (Some (new_node k)) ≡ []
new-entries Directory = refl
new-entries File = refl
new-entries Executable = refl
new-entries (Symlink text) = refl

-- each node of the changed tree has a name, if each entry stays and each other node had one
named-along : (t u : Tree) → IsOrdered t → EachIsNamed t → ((n : ℕ) → is_some (node_at u n) ≡ true → (is_some (node_at t n) ≡ true) ⊎ (among (named_numbers u) n ≡ true))
    → ((d : ℕ) (name : Bytes) (n : ℕ) → find_entry t d name ≡ Some n → find_entry u d name ≡ Some n) → EachIsNamed u
named-along t u ordered each was stay = record {
  named = λ n below is. ⊎_elim
      (λ old. let found = among-entry t ordered n (each.named n below old) in entry-among u found.0 found.1 n (stay found.0 found.1 n found.2))
      (λ named. named) (was n is);
}

module _ (t : Tree) (d : ℕ) (name : Bytes) (dir : is_directory_at t d ≡ true) (free : find_entry t d name ≡ None) where
  -- adding an entry leaves the others unchanged
  pub entry-stays : (m e : ℕ) (q : Bytes) (x : ℕ) → find_entry t e q ≡ Some x → find_entry (with_entry t d name m) e q ≡ Some x
  entry-stays m e q x found =
      with_entry-stays t d name dir m e q x found (λ here same. let none : find_entry t e q ≡ None = ap₂ (find_entry t) here same ∙ free in cc)

  -- adding an entry adds no node
  pub entry-was : (m n : ℕ) → is_some (node_at (with_entry t d name m) n) ≡ true → is_some (node_at t n) ≡ true
  entry-was m n is =
      ⊎_elim
      (λ same. ap (λ k. is_some (node_at t k)) same ∙ directory_some (node_at t d) dir)
      (λ other. ap is_some (sym (node_at-other t d (directory_node (put by_name name m (entries_at t d))) n (directory-below t d dir) other)) ∙ is) (cases_eq n d)
    where
      directory_some : (o : Option Node) → is_directory o ≡ true → is_some o ≡ true
      directory_some None is = cc
      directory_some (Some node) is = refl

  pub named-with_entry : (m : ℕ) → IsOrdered t → EachIsNamed t → EachIsNamed (with_entry t d name m)
  named-with_entry m ordered each = named-along t (with_entry t d name m) ordered each (λ n is. inl (entry-was m n is)) (entry-stays m)

module _ (t : Tree) (d : ℕ) (name : Bytes) (node : Node) (dir : is_directory_at t d ≡ true) (free : find_entry t d name ≡ None) (bare : entries_of (Some node) ≡ [])
    (within : new_number t ≤ length t.nodes) where
  abbrev m0 : ℕ
  m0 = new_number t

  abbrev t1 : Tree
  t1 = with_node t m0 node

  abbrev u1 : Tree
  u1 = with_new_node t d name node

  pub new-same : node_at t1 m0 ≡ Some node
  new-same = with_number-same_within t.nodes m0 node within

  pub new-other : (n : ℕ) → n ≢ m0 → node_at t1 n ≡ node_at t n
  new-other n other = with_number-other_within t.nodes m0 node n within other

  pub entries-new : (e : ℕ) → entries_at t1 e ≡ entries_at t e
  entries-new e =
      ⊎_elim (λ eq. ap (entries_at t1) eq ∙ ap entries_of new-same ∙ bare ∙ sym (ap entries_of (new_number-free t)) ∙ ap (entries_at t) (sym eq))
      (λ other. ap entries_of (new-other e other)) (cases_eq e m0)

  apart : d ≢ m0
  apart same = let isnt : is_directory_at t d ≡ false = ap (is_directory_at t) same ∙ ap is_directory (new_number-free t) in cc

  pub dir-new : is_directory_at t1 d ≡ true
  dir-new = ap is_directory (new-other d apart) ∙ dir

  pub free-new : find_entry t1 d name ≡ None
  free-new = ap (find by_name name) (entries-new d) ∙ free

  -- the old nodes and the new node exist
  pub there-new : (n : ℕ) → is_some (node_at t1 n) ≡ true → is_some (node_at u1 n) ≡ true
  there-new n is = still-there t1 d (directory_node (put by_name name m0 (entries_at t1 d))) (directory-below t1 d dir-new) n is

  pub there-old : (n : ℕ) → is_some (node_at t n) ≡ true → is_some (node_at u1 n) ≡ true
  there-old n is = there-new n (⊎_elim (λ eq. ap is_some (ap (node_at t1) eq ∙ new-same)) (λ other. ap is_some (new-other n other) ∙ is) (cases_eq n m0))

  -- each entry stays, and the new one exists
  pub stays-new : (e : ℕ) (q : Bytes) (x : ℕ) → find_entry t e q ≡ Some x → find_entry u1 e q ≡ Some x
  stays-new e q x found = entry-stays t1 d name dir-new free-new m0 e q x (ap (find by_name q) (entries-new e) ∙ found)

  pub named-new : among (named_numbers u1) m0 ≡ true
  named-new = entry-among u1 d name m0 (found-with t1 d name dir-new m0)

  pub named-with_new_node : IsOrdered t → EachIsNamed t → EachIsNamed u1
  named-with_new_node ordered each =
      named-along t u1 ordered each
      (λ n is. ⊎_elim (λ same. inr (ap (among (named_numbers u1)) same ∙ named-new))
      (λ other. inl (ap is_some (sym (new-other n other)) ∙ entry-was t1 d name dir-new free-new m0 n is)) (cases_eq n m0))
      stays-new
