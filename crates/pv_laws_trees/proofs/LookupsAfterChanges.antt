-- Lookups of names in directories before and after a change.
use Rattle.std.proofs.Common.{◌≡◌, ◌≢◌, ℕ, ◌≤◌, true, List, [], length, Option, None, Some, refl, ap, sym, ◌∙◌, ⊎_elim}
use Rattle.std.specs.FinMap.Entries.{find}
use Rattle.std.proofs.lemmas.Bool.{cases_eq}
use Rattle.pv_model.specs.Machine.{Bytes, with_content, with_content_of, Node, directory_node, file_node, link_node, Tree, node_at, entries_of, is_directory_at, find_entry, with_node, with_entry, without_entry, new_number, with_new_node, IsWellFormed}
use Rattle.pv_laws_trees.specs.Found.{AreEqualLookups, AreEqualExceptAt, AreEqualExceptAtTwo}
use Rattle.pv_laws_trees.specs.Preserved.{numbers_wanted, preserved}
use Rattle.pv_laws_trees.proofs.TreeChanges.{cases_name, shape-without_entry, found-with_elsewhere, found-with_other, found-without_elsewhere, found-without_other}
use Rattle.pv_laws_trees.proofs.WellFormedChanges.{same_entries}
use Rattle.pv_laws_trees.proofs.DirectoryEntries.{by_name}
use Rattle.pv_laws_trees.proofs.Collection.{wanted-covers, find-only}
use Rattle.pv_laws_trees.proofs.NewNodes.{entries-new, dir-new}
use Rattle.pv_laws_trees.proofs.NumberedMaps.{at_number-below}
use Rattle.pv_laws_trees.proofs.Trees.{sound}

-- trees that differ at one name of one directory
same-other : (t u : Tree) (d : ℕ) (name : Bytes) → ((e : ℕ) (q : Bytes) → e ≢ d → find_entry u e q ≡ find_entry t e q)
    → ((q : Bytes) → q ≢ name → find_entry u d q ≡ find_entry t d q) → AreEqualExceptAt d name (find_entry t) (find_entry u)
same-other t u d name beside others e q other =
    ⊎_elim
    (λ here. ⊎_elim
    (λ same. absurd (other (here, same)))
    (λ away. ap (λ k. find_entry u k q) here ∙ others q away ∙ ap (λ k. find_entry t k q) (sym here))
    (cases_name q name))
    (λ away. beside e q away)
    (cases_eq e d)

-- a change followed by no change
pub alike-then : (d : ℕ) (name : Bytes) (map next last : ℕ → Bytes → Option ℕ) → AreEqualExceptAt d name map next → AreEqualLookups next last → AreEqualExceptAt d name map last
alike-then d name map next last changed same e q other = same e q ∙ changed e q other

-- an entry is added or replaced
pub alike-with : (t : Tree) (d : ℕ) (name : Bytes) (n : ℕ) → is_directory_at t d ≡ true → AreEqualExceptAt d name (find_entry t) (find_entry (with_entry t d name n))
alike-with t d name n is = same-other t (with_entry t d name n) d name (found-with_elsewhere t d name is n) (found-with_other t d name is n)

-- an entry is removed
pub alike-without : (t : Tree) (d : ℕ) (name : Bytes) → is_directory_at t d ≡ true → AreEqualExceptAt d name (find_entry t) (find_entry (without_entry t d name))
alike-without t d name is = same-other t (without_entry t d name) d name (found-without_elsewhere t d name is) (found-without_other t d name is)

-- a new node without entries
pub alike-new : (t : Tree) (d : ℕ) (name : Bytes) (node : Node) → is_directory_at t d ≡ true → find_entry t d name ≡ None → entries_of (Some node) ≡ [] → new_number t ≤ length t.nodes
    → AreEqualExceptAt d name (find_entry t) (find_entry (with_new_node t d name node))
alike-new t d name node is free bare within e q other =
    let u : Tree = with_node t (new_number t) node in
    alike-with u d name (new_number t) (dir-new t d name node is free bare within) e q other
    ∙ ap (find by_name q) (entries-new t d name node is free bare within e)

-- an entry is removed and another is added
pub alike-moved : (t : Tree) → IsWellFormed t → (d : ℕ) (name : Bytes) (e : ℕ) (new : Bytes) (n : ℕ) → is_directory_at t d ≡ true → is_directory_at t e ≡ true
    → AreEqualExceptAtTwo d name e new (find_entry t) (find_entry (with_entry (without_entry t d name) e new n))
alike-moved t w d name e new n from to =
    let u : Tree = without_entry t d name in
    (find_entry u, alike-without t d name from, alike-with u e new n ((shape-without_entry t d name from w.each_node).directory e ∙ to))

-- unreferenced nodes are collected
pub alike-preserved : (t : Tree) → IsWellFormed t → (held : List ℕ) → AreEqualLookups (find_entry t) (find_entry (preserved t held))
alike-preserved t w held = find-only t (numbers_wanted t held) (sound t w) (wanted-covers t held)

-- the bytes of a file are replaced
pub alike-content : (t : Tree) (f : ℕ) (bytes : Bytes) → AreEqualLookups (find_entry t) (find_entry (with_content t f bytes))
alike-content t f bytes d q = by (node_at t f) refl
  where
    by : (o : Option Node) → node_at t f ≡ o → find_entry (with_content_of t f o bytes) d q ≡ find_entry t d q
    by None at = refl
    by (Some (directory_node es)) at = refl
    by (Some (link_node text)) at = refl
    by (Some (file_node executable old)) at =
        ap (find by_name q) (same_entries t f (file_node executable bytes) (at_number-below t.nodes f (file_node executable old) at) (sym (ap entries_of at)) d)
