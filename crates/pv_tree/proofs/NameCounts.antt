-- The number of names of nodes, as entries change.
use Rattle.std.proofs.Common.{◌≡◌, ℕ, zero, suc, ◌+◌, ◌<◌, true, ◌==◌, [], ◌∷◌, filter, length, None, Some, arith}
use Rattle.std.specs.FinMap.Entries.{put, where_key}
use Rattle.std.proofs.lemmas.List.{length-map}
use Rattle.pv_model.specs.Machine.{Bytes, Numbered, at_number, with_number, Entries, Node, directory_node, Tree, entries_of, entries_at, is_directory_at, find_entry, names_in, with_node, with_entry, without_entry}
use Rattle.pv_laws_trees.proofs.TreeChanges.{directory-below}
use Rattle.pv_laws_trees.proofs.DirectoryEntries.{by_name, is_other}
use Rattle.pv_laws_trees.proofs.NameCounts.{name_count, names_of_nodes, names-cons}
use Rattle.pv_laws_trees.proofs.Trees.{IsOrdered}
use Rattle.pv_tree.proofs.DirectoryEntries.{count_in, one_if, count-put, count-without}

pub length-names_in : (n : ℕ) (es : Entries) (d : ℕ) → length (names_in n es d) ≡ count_in n es
length-names_in n es d = length-map {B = ℕ × Bytes} (filter (λ e. e.1 == n) es) (λ e. (d, e.0))

-- another node under a number
names-with_number : (n k : ℕ) (xs : Numbered Node) (d : ℕ) (node : Node) → d < length xs
    → length (names_of_nodes n k (with_number xs d node)) + count_in n (entries_of (at_number xs d)) ≡ length (names_of_nodes n k xs) + count_in n (entries_of (Some node))
names-with_number n k [] d node below = absurd (omega arith)
names-with_number n k (o ∷ xs) zero node below = omega (arith, names-cons n k o xs, names-cons n k (Some node) xs, length-names_in n (entries_of o) k, length-names_in n (entries_of (Some node)) k)
names-with_number n k (o ∷ xs) (suc d) node below =
    omega (arith, names-cons n k o xs, names-cons n k o (with_number xs d node), names-with_number n (suc k) xs d node (omega arith))

pub names-with_node : (t : Tree) (n d : ℕ) (node : Node) → d < length t.nodes
    → name_count (with_node t d node) n + count_in n (entries_at t d) ≡ name_count t n + count_in n (entries_of (Some node))
names-with_node t n d node below = names-with_number n 0 t.nodes d node below

pub names-with_entry : (t : Tree) (n d : ℕ) (name : Bytes) (m : ℕ) → is_directory_at t d ≡ true → find_entry t d name ≡ None
    → name_count (with_entry t d name m) n ≡ one_if m n + name_count t n
names-with_entry t n d name m is none =
    omega (arith, names-with_node t n d (directory_node (put by_name name m (entries_at t d))) (directory-below t d is), count-put n name m (entries_at t d) none)

pub names-without_entry : (t : Tree) → IsOrdered t → (n d : ℕ) (name : Bytes) (m : ℕ) → is_directory_at t d ≡ true → find_entry t d name ≡ Some m
    → one_if m n + name_count (without_entry t d name) n ≡ name_count t n
names-without_entry t ordered n d name m is found =
    omega (
      arith,
      names-with_node t n d (directory_node (where_key by_name (is_other name) (entries_at t d))) (directory-below t d is),
      count-without n name m (entries_at t d) (ordered d) found,
    )
