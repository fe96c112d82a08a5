-- The number of names of nodes, and whether a count is positive.
use Rattle.std.proofs.Common.{◌≡◌, ℕ, zero, suc, ◌+◌, ◌*◌, ◌<◌, ◌≤◌, Bool, true, false, cond, ◌||◌, ◌==◌, List, ◌∷◌, [], map, filter, flat_map, length, Option, None, Some, zero-add, refl, ap, ap₂, sym, ◌∙◌, arith}
use Rattle.std.proofs.Math.ListN.{length-append}
use Rattle.std.proofs.lemmas.List.{length-map}
use Rattle.std.proofs.lemmas.List.Folds.{list_any-append}
use Rattle.std.proofs.lemmas.List.Sums.{length-filter, count_by-le-length}
use Rattle.pv_model.specs.declared.version.Version.{Version}
use Rattle.pv_model.specs.declared.version.Version.TheVariants.{V1, V2}
use Rattle.pv_model.specs.Machine.{Bytes, among, Numbered, at_number, numbered_from, entry_length, greatest_length, is_too_long, Entries, Node, directory_node, file_node, link_node, Tree, node_at, entries_of, entries_at, names_in, names_of, named_numbers}
use Rattle.pv_laws_trees.proofs.NodeRoom.{length-within}
use Rattle.pv_laws_trees.proofs.Trees.{named_from}

-- ---- positive counts

abbrev pub is_positive : ℕ → Bool
is_positive zero = false
is_positive (suc n) = true

pub positive-is : (n : ℕ) → 0 < n → is_positive n ≡ true
positive-is zero more = absurd (omega arith)
positive-is (suc n) more = refl

pub is-positive : (n : ℕ) → is_positive n ≡ true → 0 < n
is-positive zero is = cc
is-positive (suc n) is = omega arith

pub none-positive : (n : ℕ) → is_positive n ≡ false → n ≡ 0
none-positive zero is = refl
none-positive (suc n) is = cc

is_positive-sum : (a b : ℕ) → is_positive (a + b) ≡ (is_positive a || is_positive b)
is_positive-sum zero b = ap is_positive (zero-add b)
is_positive-sum (suc a) b = let more : suc a + b ≡ suc (a + b) = omega arith in ap is_positive more

-- ---- the number of names

abbrev pub name_count : Tree → ℕ → ℕ
name_count t n = length (names_of t n)

-- the names of a node among nodes numbered from k on
abbrev pub names_of_nodes : ℕ → ℕ → Numbered Node → List (ℕ × Bytes)
names_of_nodes n k xs = flat_map (λ d. names_in n (entries_of (Some d.1)) d.0) (numbered_from k xs)

-- the names of a node are those in the first directory and those in the others
pub names-cons : (n k : ℕ) (o : Option Node) (xs : Numbered Node) → length (names_of_nodes n k (o ∷ xs)) ≡ length (names_in n (entries_of o) k) + length (names_of_nodes n (suc k) xs)
names-cons n k None xs = omega arith
names-cons n k (Some node) xs = length-append (names_in n (entries_of (Some node)) k) (names_of_nodes n (suc k) xs)

-- if the entries are the same, the names are
names-same_from : (n k : ℕ) (xs ys : Numbered Node) → length xs ≡ length ys → ((d : ℕ) → entries_of (at_number xs d) ≡ entries_of (at_number ys d))
    → length (names_of_nodes n k xs) ≡ length (names_of_nodes n k ys)
names-same_from n k [] [] long same = refl
names-same_from n k [] (y ∷ ys) long same = absurd (omega arith)
names-same_from n k (x ∷ xs) [] long same = absurd (omega arith)
names-same_from n k (x ∷ xs) (y ∷ ys) long same =
    omega (arith, names-cons n k x xs, names-cons n k y ys, ap (λ es. length (names_in n es k)) (same 0), names-same_from n (suc k) xs ys (omega arith) (λ d. same (suc d)))

pub names-same : (t u : Tree) → length u.nodes ≡ length t.nodes → ((d : ℕ) → entries_at u d ≡ entries_at t d) → (n : ℕ) → name_count u n ≡ name_count t n
names-same t u long same n = names-same_from n 0 u.nodes t.nodes long same

-- ---- named or not

among-count : (n d : ℕ) (es : Entries) → among (map (λ e. e.1) es) n ≡ is_positive (length (names_in n es d))
among-count n d [] = refl
among-count n d (e ∷ es) =
    elim (e.1 == n) as (λ b. (b || among (map (λ x. x.1) es) n)
    ≡ is_positive (length {A = ℕ × Bytes} (map (λ (x : Bytes × ℕ). (d, x.0)) (cond b (e ∷ filter (λ x. x.1 == n) es) (filter (λ x. x.1 == n) es))))) [ true ↦ refl | false ↦ among-count n d es ]

named-counted : (n k : ℕ) (xs : Numbered Node) → among (named_from k xs) n ≡ is_positive (length (names_of_nodes n k xs))
named-counted n k [] = refl
named-counted n k (None ∷ xs) = named-counted n (suc k) xs
named-counted n k (Some node ∷ xs) =
    list_any-append (λ m. m == n) (map (λ e. e.1) (entries_of (Some node))) (named_from (suc k) xs)
    ∙ ap₂ (λ a b. a || b) (among-count n k (entries_of (Some node))) (named-counted n (suc k) xs)
    ∙ sym (is_positive-sum (length (names_in n (entries_of (Some node)) k)) (length (names_of_nodes n (suc k) xs)))
    ∙ ap is_positive (sym (names-cons n k (Some node) xs))

-- a number is named if it has a name
pub named-is : (t : Tree) (n : ℕ) → among (named_numbers t) n ≡ is_positive (name_count t n)
named-is t n = named-counted n 0 t.nodes

-- ---- the maximum number of names

-- a directory that is not too long has at most 2,540 entries
entries_few : (v : Version) (n : ℕ) → entry_length v * n ≤ greatest_length v → n ≤ 2540
entries_few V1 n within = omega arith
entries_few V2 n within = omega arith

pub entries-most : (t : Tree) → is_too_long t ≡ false → (d : ℕ) → length (entries_at t d) ≤ 2540
entries-most t short d = by (node_at t d) refl
  where
    by : (o : Option Node) → node_at t d ≡ o → length (entries_of o) ≤ 2540
    by None at = omega arith
    by (Some (directory_node es)) at = entries_few t.version (length es) (length-within t d (directory_node es) at short)
    by (Some (file_node executable bytes)) at = omega arith
    by (Some (link_node text)) at = omega arith

-- a directory has no more names of a node than it has entries
pub names-in_most : (n d : ℕ) (es : Entries) → length (names_in n es d) ≤ length es
names-in_most n d es =
    omega (
      arith,
      length-map {B = ℕ × Bytes} (filter (λ e. e.1 == n) es) (λ e. (d, e.0)),
      length-filter (λ (e : Bytes × ℕ). e.1 == n) es,
      count_by-le-length (λ (e : Bytes × ℕ). e.1 == n) es,
    )

names-most_from : (n k : ℕ) (xs : Numbered Node) → ((d : ℕ) → length (entries_of (at_number xs d)) ≤ 2540) → length (names_of_nodes n k xs) ≤ 2540 * length xs
names-most_from n k [] few = omega arith
names-most_from n k (o ∷ xs) few =
    omega (arith, names-cons n k o xs, names-in_most n k (entries_of o), few 0, names-most_from n (suc k) xs (λ d. few (suc d)))

pub names-most : (t : Tree) → is_too_long t ≡ false → (n : ℕ) → name_count t n ≤ 2540 * length t.nodes
names-most t short n = names-most_from n 0 t.nodes (entries-most t short)
