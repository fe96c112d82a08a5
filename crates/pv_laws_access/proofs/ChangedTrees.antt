-- Entries and files after changes of trees.
use Rattle.std.proofs.Common.{◌≡◌, ◌≢◌, ℕ, zero, suc, ◌<◌, ◌≤◌, Bool, true, false, [], ◌∷◌, length, Option, None, Some, refl, ap, sym, ◌∙◌, ⊎_elim, ◌⊎◌, inl, inr, arith, suc-le-suc, zero-le}
use Rattle.std.specs.FinMap.Entries.{find, put}
use Rattle.std.proofs.lemmas.Bool.{cases_eq}
use Rattle.pv_model.specs.Machine.{Bytes, with_content_of, with_content, among, collect, Numbered, with_number, keep_if, is_file, State, Node, directory_node, file_node, link_node, Tree, node_at, entries_of, entries_at, is_directory, is_directory_at, find_entry, with_node, with_entry, without_entry, new_number, with_new_node}
use Rattle.pv_laws_trees.specs.Preserved.{numbers_wanted}
use Rattle.pv_laws_states.specs.States.{IsTree}
use Rattle.pv_laws_trees.proofs.TreeChanges.{cases_name, node_at-same, node_at-other, directory-below, entries-other, found-with_elsewhere, found-with_other, found-without_elsewhere, found-without_other}
use Rattle.pv_laws_trees.proofs.WellFormedChanges.{new_number-free}
use Rattle.pv_laws_states.proofs.GrownTrees.{directory-no_file}
use Rattle.pv_laws_trees.proofs.NumberedMaps.{at_number-below, at_number-keep}
use Rattle.pv_laws_trees.proofs.DirectoryEntries.{by_name}
use Rattle.pv_laws_trees.proofs.Trees.{sound}
use Rattle.pv_laws_states.proofs.CollectedStates.{held_after, tree-collect}
use Rattle.pv_laws_trees.proofs.Collection.{find-only, wanted-covers}

-- an entry is this one, or another
pub cases_entry : (e d : ℕ) (q name : Bytes) → ((e ≡ d) × (q ≡ name)) ⊎ ((e ≡ d) → (q ≡ name) → ⊥)
cases_entry e d q name =
    ⊎_elim (λ here. ⊎_elim (λ same. inl (here, same)) (λ other. inr (λ _ same. other same)) (cases_name q name)) (λ away. inr (λ here _. away here)) (cases_eq e d)

-- ---- the bytes of a file

pub content-other : (t : Tree) (f : ℕ) (bytes : Bytes) (n : ℕ) → n ≢ f → node_at (with_content t f bytes) n ≡ node_at t n
content-other t f bytes n other = by (node_at t f) refl
  where
    by : (o : Option Node) → node_at t f ≡ o → node_at (with_content_of t f o bytes) n ≡ node_at t n
    by None at = refl
    by (Some (directory_node es)) at = refl
    by (Some (link_node text)) at = refl
    by (Some (file_node executable old)) at = node_at-other t f (file_node executable bytes) n (at_number-below t.nodes f (file_node executable old) at) other

pub entries-content : (t : Tree) (f : ℕ) (bytes : Bytes) (d : ℕ) → entries_at (with_content t f bytes) d ≡ entries_at t d
entries-content t f bytes d = by (node_at t f) refl
  where
    by : (o : Option Node) → node_at t f ≡ o → entries_at (with_content_of t f o bytes) d ≡ entries_at t d
    by None at = refl
    by (Some (directory_node es)) at = refl
    by (Some (link_node text)) at = refl
    by (Some (file_node executable old)) at =
        let below = at_number-below t.nodes f (file_node executable old) at in
        ⊎_elim
        (λ same. ap (entries_at (with_node t f (file_node executable bytes))) same ∙ ap entries_of (node_at-same t f (file_node executable bytes) below) ∙ sym (ap (entries_at t) same ∙ ap entries_of at))
        (λ other. ap entries_of (node_at-other t f (file_node executable bytes) d below other)) (cases_eq d f)

-- ---- entries

-- a directory's node is not a file
pub file-other : (t : Tree) (d : ℕ) (node : Node) (f : ℕ) → is_directory_at t d ≡ true → is_file (node_at t f) ≡ true → node_at (with_node t d node) f ≡ node_at t f
file-other t d node f dir file =
    node_at-other t d node f (directory-below t d dir) (λ same. let isnt : is_file (node_at t f) ≡ false = ap (λ n. is_file (node_at t n)) same ∙ directory-no_file (node_at t d) dir in cc)

pub entry-with_other : (t : Tree) (d : ℕ) (name : Bytes) (n : ℕ) → is_directory_at t d ≡ true → (e : ℕ) (q : Bytes) → ((e ≡ d) → (q ≡ name) → ⊥)
    → find_entry (with_entry t d name n) e q ≡ find_entry t e q
entry-with_other t d name n dir e q other =
    ⊎_elim
    (λ here. ap (λ k. find_entry (with_entry t d name n) k q) here ∙ found-with_other t d name dir n q (other here) ∙ ap (λ k. find_entry t k q) (sym here))
    (λ away. found-with_elsewhere t d name dir n e q away) (cases_eq e d)

pub entry-without_other : (t : Tree) (d : ℕ) (name : Bytes) → is_directory_at t d ≡ true → (e : ℕ) (q : Bytes) → ((e ≡ d) → (q ≡ name) → ⊥)
    → find_entry (without_entry t d name) e q ≡ find_entry t e q
entry-without_other t d name dir e q other =
    ⊎_elim
    (λ here. ap (λ k. find_entry (without_entry t d name) k q) here ∙ found-without_other t d name dir q (other here) ∙ ap (λ k. find_entry t k q) (sym here))
    (λ away. found-without_elsewhere t d name dir e q away) (cases_eq e d)

-- ---- a new node

length-grows : {X : Type 0} (xs : Numbered X) (n : ℕ) (v : X) → length xs ≤ length (with_number xs n v)
length-grows [] n v = zero-le
length-grows (x ∷ xs) zero v = omega arith
length-grows (x ∷ xs) (suc n) v = suc-le-suc (length-grows xs n v)

below-preserved : {X : Type 0} (xs : Numbered X) (n : ℕ) (v : X) → length (with_number xs n v) ≡ length xs → n < length xs
below-preserved [] n v long = absurd (omega arith)
below-preserved (x ∷ xs) zero v long = suc-le-suc zero-le
below-preserved (x ∷ xs) (suc n) v long = suc-le-suc (below-preserved xs n v (omega arith))

-- if the number of inodes stays the same, the new node is among them
pub new-within : (t : Tree) (p : ℕ × Bytes) (node : Node) → length (with_new_node t p.0 p.1 node).nodes ≡ length t.nodes → new_number t < length t.nodes
new-within t p node long =
    let t1 : Tree = with_node t (new_number t) node in
    let first = length-grows t.nodes (new_number t) node in
    let second : length t1.nodes ≤ length (with_new_node t p.0 p.1 node).nodes =
    length-grows t1.nodes p.0 (directory_node (put by_name p.1 (new_number t) (entries_at t1 p.0))) in
    below-preserved t.nodes (new_number t) node (omega arith)

module _ (t : Tree) (p : ℕ × Bytes) (node : Node) (dir : is_directory_at t p.0 ≡ true) (bare : entries_of (Some node) ≡ []) (below : new_number t < length t.nodes) where
  abbrev m : ℕ
  m = new_number t

  abbrev t1 : Tree
  t1 = with_node t m node

  apart : p.0 ≢ m
  apart same = let isnt : is_directory_at t p.0 ≡ false = ap (is_directory_at t) same ∙ ap is_directory (new_number-free t) in cc

  dir_one : is_directory_at t1 p.0 ≡ true
  dir_one = ap is_directory (node_at-other t m node p.0 below apart) ∙ dir

  entries_one : (e : ℕ) → entries_at t1 e ≡ entries_at t e
  entries_one e =
      ⊎_elim
      (λ same. ap (entries_at t1) same ∙ ap entries_of (node_at-same t m node below) ∙ bare ∙ sym (ap (entries_at t) same ∙ ap entries_of (new_number-free t)))
      (λ other. entries-other t m node e below other) (cases_eq e m)

  pub entry-new_other : (e : ℕ) (q : Bytes) → ((e ≡ p.0) → (q ≡ p.1) → ⊥) → find_entry (with_new_node t p.0 p.1 node) e q ≡ find_entry t e q
  entry-new_other e q other = entry-with_other t1 p.0 p.1 m dir_one e q other ∙ ap (λ es. find by_name q es) (entries_one e)

  pub file-new : (f : ℕ) → is_file (node_at t f) ≡ true → node_at (with_new_node t p.0 p.1 node) f ≡ node_at t f
  file-new f file =
      let old : node_at t1 f ≡ node_at t f =
      node_at-other t m node f below (λ same. let isnt : is_file (node_at t f) ≡ false = ap (λ n. is_file (node_at t n)) same ∙ ap is_file (new_number-free t) in cc) in
      file-other t1 p.0 _ f dir_one (ap is_file old ∙ file) ∙ old

-- ---- collection

pub entry-collect : (s : State) → IsTree s.tree → (d : ℕ) (name : Bytes) → find_entry (collect s).tree d name ≡ find_entry s.tree d name
entry-collect s tree d name =
    ap (λ (t : Tree). find_entry t d name) (tree-collect s) ∙ find-only s.tree (numbers_wanted s.tree (held_after s)) (sound s.tree tree.well_formed) (wanted-covers s.tree (held_after s)) d name

-- a file that remains after collection is unchanged
pub file-collect : (s : State) (f : ℕ) → is_file (node_at (collect s).tree f) ≡ true → node_at (collect s).tree f ≡ node_at s.tree f
file-collect s f file =
    let preserved = ap (λ (t : Tree). node_at t f) (tree-collect s) ∙ at_number-keep (among (numbers_wanted s.tree (held_after s))) s.tree.nodes f in
    preserved ∙ by (among (numbers_wanted s.tree (held_after s)) f) (node_at s.tree f) (ap is_file (sym preserved) ∙ file)
  where
    by : (b : Bool) (o : Option Node) → is_file (keep_if b o) ≡ true → keep_if b o ≡ o
    by true o is = refl
    by false o is = cc
