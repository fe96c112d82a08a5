-- Trees and their entries.
use Rattle.std.proofs.Common.{◌≡◌, ◌≢◌, ◌↔◌, ℕ, zero, suc, ◌+◌, ◌≤◌, Bool, true, false, cond, ◌||◌, ◌==◌, List, [], ◌∷◌, ◌++◌, map, filter, flat_map, length, Option, None, Some, IsTrue, refl, ap, ap₂, sym, ◌∙◌, arith, inl, inr, ◌⊎◌, ⊎_elim}
use Rattle.std.specs.Ordering.{eq_by_cmp}
use Rattle.std.specs.FinMap.Entries.{find, is_sorted, below_all}
use Rattle.std.proofs.Math.ListN.{length-append}
use Rattle.std.proofs.lemmas.List.{length-map}
use Rattle.std.proofs.lemmas.Bool.{and_parts, eqb-true, eq-eqb, ne_eqb, or_left, or_right, or_cases, or_parts, cases_Bool}
use Rattle.std.proofs.lemmas.List.Folds.{list_any-append}
use Rattle.pv_model.specs.Machine.{Bytes, among, Numbered, at_number, numbered_from, numbered, Entries, Node, directory_node, file_node, link_node, Tree, root, node_at, entries_of, entries_at, is_directory_at, find_entry, parent, names_in, names_of, named_numbers, is_node, IsWellFormed}
use Rattle.pv_model.specs.Tree.{names_node, first_parent}
use Rattle.pv_laws_trees.specs.Tree.{IsSoundTree}
use Rattle.pv_laws_trees.proofs.DirectoryEntries.{by_name, tied_itself, tied-same, find-names_node, names_node-find, find_after}

-- whether an entry of the node at a number names n
abbrev pub names_at : ℕ → Numbered Node → ℕ → Bool
names_at n xs d = names_node n (entries_of (at_number xs d))

-- ---- the numbers in entries

among-names : (n : ℕ) (es : Entries) → among (map (λ e. e.1) es) n ≡ names_node n es
among-names n [] = refl
among-names n (e ∷ es) = ap (λ b. (e.1 == n) || b) (among-names n es)

abbrev pub named_from : ℕ → Numbered Node → List ℕ
named_from k xs = flat_map (λ d. map (λ e. e.1) (entries_of (Some d.1))) (numbered_from k xs)

named-at : (n k : ℕ) (xs : Numbered Node) → among (named_from k xs) n ≡ true → (d : ℕ) × (names_at n xs d ≡ true)
named-at n k [] is = cc
named-at n k (None ∷ xs) is = let found = named-at n (suc k) xs is in (suc found.0, found.1)
named-at n k (Some node ∷ xs) is =
    ⊎_elim (λ here. (0, sym (among-names n (entries_of (Some node))) ∙ here)) (λ there. let found = named-at n (suc k) xs there in (suc found.0, found.1))
    (or_cases _ _ (sym (list_any-append (λ m. m == n) (map (λ e. e.1) (entries_of (Some node))) (named_from (suc k) xs)) ∙ is))

at-named : (n k : ℕ) (xs : Numbered Node) (d : ℕ) → names_at n xs d ≡ true → among (named_from k xs) n ≡ true
at-named n k [] d is = cc
at-named n k (None ∷ xs) zero is = cc
at-named n k (None ∷ xs) (suc d) is = at-named n (suc k) xs d is
at-named n k (Some node ∷ xs) zero is =
    list_any-append (λ m. m == n) (map (λ e. e.1) (entries_of (Some node))) (named_from (suc k) xs)
    ∙ or_left _ _ (among-names n (entries_of (Some node)) ∙ is)
at-named n k (Some node ∷ xs) (suc d) is =
    list_any-append (λ m. m == n) (map (λ e. e.1) (entries_of (Some node))) (named_from (suc k) xs)
    ∙ or_right (among (map (λ e. e.1) (entries_of (Some node))) n) _ (at-named n (suc k) xs d is)

-- ---- the first parent

parent-at : (n k : ℕ) (xs : Numbered Node) (d : ℕ) → first_parent n (numbered_from k xs) ≡ Some d → (i : ℕ) × (d ≡ k + i) × (names_at n xs i ≡ true)
parent-at n k [] d is = cc
parent-at n k (None ∷ xs) d is = let found = parent-at n (suc k) xs d is in (suc found.0, omega (arith, found.1), found.2)
parent-at n k (Some node ∷ xs) d is =
    elim (names_node n (entries_of (Some node))) as (λ b. names_node n (entries_of (Some node)) ≡ b → cond b (Some k) (first_parent n (numbered_from (suc k) xs)) ≡ Some d
    → (i : ℕ) × (d ≡ k + i) × (names_at n (Some node ∷ xs) i ≡ true)) [
      | true ↦ λ names here. let same : k ≡ d = cc here in (0, omega arith, names)
      | false ↦ λ names there. let found = parent-at n (suc k) xs d there in (suc found.0, omega (arith, found.1), found.2)
    ] refl is

parent-none : (n k : ℕ) (xs : Numbered Node) → first_parent n (numbered_from k xs) ≡ None → (i : ℕ) → names_at n xs i ≡ false
parent-none n k [] none i = refl
parent-none n k (None ∷ xs) none zero = refl
parent-none n k (None ∷ xs) none (suc i) = parent-none n (suc k) xs none i
parent-none n k (Some node ∷ xs) none i =
    elim (names_node n (entries_of (Some node))) as (λ b. names_node n (entries_of (Some node)) ≡ b → cond b (Some k) (first_parent n (numbered_from (suc k) xs)) ≡ None
    → names_at n (Some node ∷ xs) i ≡ false) [
      | true ↦ λ names here. cc here
      | false ↦ λ names there. by i names (parent-none n (suc k) xs there)
    ] refl none
  where
    by : (i : ℕ) → names_node n (entries_of (Some node)) ≡ false → ((j : ℕ) → names_at n xs j ≡ false) → names_at n (Some node ∷ xs) i ≡ false
    by zero names rest = names
    by (suc i) names rest = rest i

-- ---- the number of names

abbrev pairs : ℕ → Entries → List (ℕ × Bytes)
pairs d es = map (λ e. (d, e.0)) es

abbrev names_from : ℕ → ℕ → Numbered Node → List (ℕ × Bytes)
names_from n k xs = flat_map (λ d. names_in n (entries_of (Some d.1)) d.0) (numbered_from k xs)

names_in-here : (n d : ℕ) (e : Bytes × ℕ) (es : Entries) → (e.1 == n) ≡ true → names_in n (e ∷ es) d ≡ (d, e.0) ∷ names_in n es d
names_in-here n d e es is = ap (λ b. pairs d (cond b (e ∷ filter (λ e. e.1 == n) es) (filter (λ e. e.1 == n) es))) is

names_in-other : (n d : ℕ) (e : Bytes × ℕ) (es : Entries) → (e.1 == n) ≡ false → names_in n (e ∷ es) d ≡ names_in n es d
names_in-other n d e es is = ap (λ b. pairs d (cond b (e ∷ filter (λ e. e.1 == n) es) (filter (λ e. e.1 == n) es))) is

no_shorter : (n d : ℕ) (e : Bytes × ℕ) (es : Entries) → length (names_in n es d) ≤ length (names_in n (e ∷ es) d)
no_shorter n d e es =
    ⊎_elim (λ is. omega (arith, ap length (names_in-here n d e es is))) (λ is. omega (arith, ap length (names_in-other n d e es is))) (cases_Bool (e.1 == n))

-- an entry is counted
counted : (n d : ℕ) (es : Entries) → names_node n es ≡ true → 1 ≤ length (names_in n es d)
counted n d [] is = cc
counted n d (e ∷ es) is =
    ⊎_elim (λ here. omega (arith, ap length (names_in-here n d e es here))) (λ there. omega (arith, no_shorter n d e es, counted n d es there))
    (or_cases (e.1 == n) (names_node n es) is)

uncounted : (n d : ℕ) (es : Entries) → names_node n es ≡ false → names_in n es d ≡ []
uncounted n d [] is = refl
uncounted n d (e ∷ es) is =
    let parts = or_parts (e.1 == n) (names_node n es) is in names_in-other n d e es parts.0 ∙ uncounted n d es parts.1

counted_from : (n k : ℕ) (xs : Numbered Node) (d : ℕ) → names_at n xs d ≡ true → 1 ≤ length (names_from n k xs)
counted_from n k [] d is = cc
counted_from n k (None ∷ xs) zero is = cc
counted_from n k (None ∷ xs) (suc d) is = counted_from n (suc k) xs d is
counted_from n k (Some node ∷ xs) zero is =
    let more : 1 ≤ length (names_in n (entries_of (Some node)) k) = counted n k (entries_of (Some node)) is in
    omega (arith, length-append (names_in n (entries_of (Some node)) k) (names_from n (suc k) xs))
counted_from n k (Some node ∷ xs) (suc d) is =
    let more : 1 ≤ length (names_from n (suc k) xs) = counted_from n (suc k) xs d is in
    omega (arith, length-append (names_in n (entries_of (Some node)) k) (names_from n (suc k) xs))

uncounted_from : (n k : ℕ) (xs : Numbered Node) → ((d : ℕ) → names_at n xs d ≡ false) → names_from n k xs ≡ []
uncounted_from n k [] none = refl
uncounted_from n k (None ∷ xs) none = uncounted_from n (suc k) xs (λ d. none (suc d))
uncounted_from n k (Some node ∷ xs) none =
    ap₂ (λ (a b : List (ℕ × Bytes)). a ++ b) (uncounted n k (entries_of (Some node)) (none 0)) (uncounted_from n (suc k) xs (λ d. none (suc d)))

-- a lookup finds the first entry, or one after it
found_at : (n : ℕ) (name : Bytes) (e : Bytes × ℕ) (es : Entries) → find by_name name (e ∷ es) ≡ Some n
    → ((name ≡ e.0) × (e.1 ≡ n)) ⊎ (find by_name name es ≡ Some n)
found_at n name e es is =
    elim (eq_by_cmp by_name name e.0) as (λ b. eq_by_cmp by_name name e.0 ≡ b → cond b (Some e.1) (find by_name name es) ≡ Some n
    → ((name ≡ e.0) × (e.1 ≡ n)) ⊎ (find by_name name es ≡ Some n)) [
      | true ↦ λ tied here. inl (tied-same name e.0 tied, cc here)
      | false ↦ λ tied there. inr there
    ] refl is

-- at most one name in a directory
crowded : {P : Type 0} (n d : ℕ) (e : Bytes × ℕ) (es : Entries) → length (names_in n (e ∷ es) d) ≤ 1 → e.1 ≡ n → (name : Bytes) → find by_name name es ≡ Some n → P
crowded n d e es once here name there =
    let more : 1 ≤ length (names_in n es d) = counted n d es (find-names_node n name es there) in
    absurd (omega (arith, ap length (names_in-here n d e es (eq-eqb e.1 n here))))

once_in : (n d : ℕ) (es : Entries) → length (names_in n es d) ≤ 1 → (name other : Bytes)
    → find by_name name es ≡ Some n → find by_name other es ≡ Some n → name ≡ other
once_in n d [] once name other a b = cc
once_in n d (e ∷ es) once name other a b =
    ⊎_elim
    (λ here. ⊎_elim (λ too. here.0 ∙ sym too.0) (λ there. crowded n d e es once here.1 other there) (found_at n other e es b))
    (λ there. ⊎_elim (λ here. crowded n d e es once here.1 name there)
    (λ too. once_in n d es (omega (arith, no_shorter n d e es)) name other there too) (found_at n other e es b))
    (found_at n name e es a)

at_once : (n d : ℕ) (es : Entries) → is_sorted by_name es ≡ true
    → ((name other : Bytes) → find by_name name es ≡ Some n → find by_name other es ≡ Some n → name ≡ other) → length (names_in n es d) ≤ 1
at_once n d [] sorted same = omega arith
at_once n d (e ∷ es) sorted same =
    let parts = and_parts (below_all by_name e.0 es) _ sorted in
    let rest : length (names_in n es d) ≤ 1 = at_once n d es parts.1 (λ name other a b.
    same name other (find_after name n e es sorted a).1 (find_after other n e es sorted b).1) in
    ⊎_elim
    (λ here. ⊎_elim
    (λ more. let found = names_node-find n es parts.1 more in
    let first : find by_name e.0 (e ∷ es) ≡ Some n = ap (λ b. cond b (Some e.1) (find by_name e.0 es)) (tied_itself e.0) ∙ ap Some (eqb-true e.1 n here) in
    absurd ((find_after found.0 n e es sorted found.1).0 (same found.0 e.0 (find_after found.0 n e es sorted found.1).1 first)))
    (λ none. omega (arith, ap length (names_in-here n d e es here), ap length (uncounted n d es none)))
    (cases_Bool (names_node n es)))
    (λ other. omega (arith, ap length (names_in-other n d e es other)))
    (cases_Bool (e.1 == n))

-- at most one directory
once_at : (n k : ℕ) (xs : Numbered Node) → length (names_from n k xs) ≤ 1 → (d e : ℕ) → names_at n xs d ≡ true → names_at n xs e ≡ true → d ≡ e
once_at n k [] once d e a b = cc
once_at n k (None ∷ xs) once zero e a b = cc
once_at n k (None ∷ xs) once (suc d) zero a b = cc
once_at n k (None ∷ xs) once (suc d) (suc e) a b = ap suc (once_at n (suc k) xs once d e a b)
once_at n k (Some node ∷ xs) once zero zero a b = refl
once_at n k (Some node ∷ xs) once zero (suc e) a b =
    let one : 1 ≤ length (names_in n (entries_of (Some node)) k) = counted n k (entries_of (Some node)) a in
    let more : 1 ≤ length (names_from n (suc k) xs) = counted_from n (suc k) xs e b in
    absurd (omega (arith, length-append (names_in n (entries_of (Some node)) k) (names_from n (suc k) xs)))
once_at n k (Some node ∷ xs) once (suc d) zero a b =
    let one : 1 ≤ length (names_in n (entries_of (Some node)) k) = counted n k (entries_of (Some node)) b in
    let more : 1 ≤ length (names_from n (suc k) xs) = counted_from n (suc k) xs d a in
    absurd (omega (arith, length-append (names_in n (entries_of (Some node)) k) (names_from n (suc k) xs)))
once_at n k (Some node ∷ xs) once (suc d) (suc e) a b =
    ap suc (once_at n (suc k) xs (omega (arith, length-append (names_in n (entries_of (Some node)) k) (names_from n (suc k) xs))) d e a b)

-- the names in one directory are no more than all names
as_many : (n a b : ℕ) (es : Entries) → length (names_in n es a) ≡ length (names_in n es b)
as_many n a b es = length-map {B = ℕ × Bytes} (filter (λ e. e.1 == n) es) (λ e. (a, e.0)) ∙ sym (length-map {B = ℕ × Bytes} (filter (λ e. e.1 == n) es) (λ e. (b, e.0)))

no_more : (n k : ℕ) (xs : Numbered Node) (d m : ℕ) → length (names_in n (entries_of (at_number xs d)) m) ≤ length (names_from n k xs)
no_more n k [] d m = omega arith
no_more n k (None ∷ xs) zero m = omega arith
no_more n k (None ∷ xs) (suc d) m = no_more n (suc k) xs d m
no_more n k (Some node ∷ xs) zero m =
    omega (arith, as_many n m k (entries_of (Some node)), length-append (names_in n (entries_of (Some node)) k) (names_from n (suc k) xs))
no_more n k (Some node ∷ xs) (suc d) m =
    omega (arith, no_more n (suc k) xs d m, length-append (names_in n (entries_of (Some node)) k) (names_from n (suc k) xs))

-- a node with one entry has one name
abbrev entry_at : Numbered Node → ℕ → Bytes → ℕ → Type 0
entry_at xs d name n = find by_name name (entries_of (at_number xs d)) ≡ Some n

one_name : (n k : ℕ) (xs : Numbered Node) → ((d : ℕ) → is_sorted by_name (entries_of (at_number xs d)) ≡ true)
    → ((d : ℕ) (name : Bytes) (e : ℕ) (other : Bytes) → entry_at xs d name n → entry_at xs e other n → (d ≡ e) × (name ≡ other))
    → length (names_from n k xs) ≤ 1
one_name n k [] sorted same = omega arith
one_name n k (None ∷ xs) sorted same =
    one_name n (suc k) xs (λ d. sorted (suc d)) (λ d name e other a b. let both = same (suc d) name (suc e) other a b in (omega (arith, both.0), both.1))
one_name n k (Some node ∷ xs) sorted same =
    let es = entries_of (Some node) in
    let here : length (names_in n es k) ≤ 1 = at_once n k es (sorted 0) (λ name other a b. (same 0 name 0 other a b).1) in
    let there : length (names_from n (suc k) xs) ≤ 1 =
    one_name n (suc k) xs (λ d. sorted (suc d)) (λ d name e other a b. let both = same (suc d) name (suc e) other a b in (omega (arith, both.0), both.1)) in
    ⊎_elim
    (λ names.
    let found = names_node-find n es (sorted 0) names in
    let none : (d : ℕ) → names_at n xs d ≡ false = λ d.
    ⊎_elim
    (λ too. let other = names_node-find n (entries_of (at_number xs d)) (sorted (suc d)) too in
    absurd (omega (arith, (same 0 found.0 (suc d) other.0 found.1 other.1).0)))
    (λ no. no) (cases_Bool (names_at n xs d)) in
    omega (arith, ap length (uncounted_from n (suc k) xs none), length-append (names_in n es k) (names_from n (suc k) xs)))
    (λ none. omega (arith, ap length (uncounted n k es none), length-append (names_in n es k) (names_from n (suc k) xs)))
    (cases_Bool (names_node n es))

-- ---- trees

-- an entry belongs to its directory
pub entry-names : (t : Tree) (d : ℕ) (name : Bytes) (n : ℕ) → find_entry t d name ≡ Some n → names_at n t.nodes d ≡ true
entry-names t d name n is = find-names_node n name (entries_at t d) is

-- the node of an entry is a named number
pub entry-among : (t : Tree) (d : ℕ) (name : Bytes) (n : ℕ) → find_entry t d name ≡ Some n → among (named_numbers t) n ≡ true
entry-among t d name n is = at-named n 0 t.nodes d (entry-names t d name n is)

-- the entries of each directory are in ascending order
abbrev pub IsOrdered : Tree → Type 0
IsOrdered t = (d : ℕ) → is_sorted by_name (entries_at t d) ≡ true

-- a named number has an entry
pub among-entry : (t : Tree) → IsOrdered t → (n : ℕ) → among (named_numbers t) n ≡ true → (d : ℕ) × (name : Bytes) × (find_entry t d name ≡ Some n)
among-entry t ordered n is =
    let found = named-at n 0 t.nodes is in
    let name = names_node-find n (entries_at t found.0) (ordered found.0) found.1 in
    (found.0, name.0, name.1)

-- a node with an entry has a parent
pub parent-entry : (t : Tree) → IsOrdered t → (n d : ℕ) → n ≢ root → parent t n ≡ Some d → (name : Bytes) × (find_entry t d name ≡ Some n)
unfolding parent
parent-entry t ordered n d other is =
    let first : first_parent n (numbered t.nodes) ≡ Some d = ap (λ b. cond b (Some root) (first_parent n (numbered t.nodes))) (sym (ne_eqb n root other)) ∙ is in
    let found = parent-at n 0 t.nodes d first in
    let same : found.0 ≡ d = omega (arith, found.1) in
    names_node-find n (entries_at t d) (ordered d) (ap (names_at n t.nodes) (sym same) ∙ found.2)

pub parent-none_named : (t : Tree) (n : ℕ) → parent t n ≡ None → (n ≢ root) × ((d : ℕ) (name : Bytes) → find_entry t d name ≢ Some n)
unfolding parent
parent-none_named t n none =
    let other : n ≢ root = λ same. let b = eq-eqb n root same in let top : parent t n ≡ Some root = ap (λ b. cond b (Some root) (first_parent n (numbered t.nodes))) b in cc in
    let first : first_parent n (numbered t.nodes) ≡ None = ap (λ b. cond b (Some root) (first_parent n (numbered t.nodes))) (sym (ne_eqb n root other)) ∙ none in
    (other, λ d name is. let no = parent-none n 0 t.nodes first d in let yes = entry-names t d name n is in cc)

-- a node without an entry has no parent
pub parent-unnamed : (t : Tree) → IsOrdered t → (n : ℕ) → n ≢ root → ((d : ℕ) (name : Bytes) → find_entry t d name ≢ Some n) → parent t n ≡ None
parent-unnamed t ordered n other none =
    elim (parent t n) as (λ p. parent t n ≡ p → p ≡ None) [ None ↦ λ is. refl | Some d ↦ λ is. let found = parent-entry t ordered n d other is in absurd (none d found.0 found.1) ] refl

pub parent-root : (t : Tree) → parent t root ≡ Some root
unfolding parent
parent-root t = refl

-- ---- a well-formed tree satisfies the conditions on its entries

pub ordered : (t : Tree) → ((n : ℕ) (node : Node) → node_at t n ≡ Some node → IsTrue (is_node t.version node)) → IsOrdered t
ordered t each d = by (node_at t d) refl
  where
    by : (o : Option Node) → node_at t d ≡ o → is_sorted by_name (entries_of o) ≡ true
    by None is = refl
    by (Some (directory_node es)) is = (and_parts (is_sorted by_name es) _ (each d (directory_node es) is)).0
    by (Some (file_node executable bytes)) is = refl
    by (Some (link_node text)) is = refl

unnamed_from : (t : Tree) → IsOrdered t → (n : ℕ) → ((d : ℕ) (name : Bytes) → find_entry t d name ≢ Some n) → (d : ℕ) → names_at n t.nodes d ≡ false
unnamed_from t sorted n none d =
    ⊎_elim (λ is. let found = names_node-find n (entries_at t d) (sorted d) is in absurd (none d found.0 found.1)) (λ no. no) (cases_Bool (names_at n t.nodes d))

pub once-same : (t : Tree) (n : ℕ) → length (names_of t n) ≤ 1 → (d : ℕ) (name : Bytes) (e : ℕ) (other : Bytes)
    → find_entry t d name ≡ Some n → find_entry t e other ≡ Some n → (d ≡ e) × (name ≡ other)
once-same t n once d name e other a b =
    let same : d ≡ e = once_at n 0 t.nodes once d e (entry-names t d name n a) (entry-names t e other n b) in
    let few : length (names_in n (entries_at t d) d) ≤ 1 = omega (arith, no_more n 0 t.nodes d d) in
    (same, once_in n d (entries_at t d) few name other a (ap (λ k. find_entry t k other) same ∙ b))

pub same-once : (t : Tree) → IsOrdered t → (n : ℕ)
    → ((d : ℕ) (name : Bytes) (e : ℕ) (other : Bytes) → find_entry t d name ≡ Some n → find_entry t e other ≡ Some n → (d ≡ e) × (name ≡ other))
    → length (names_of t n) ≤ 1
same-once t sorted n same = one_name n 0 t.nodes sorted same

pub sound : (t : Tree) → IsWellFormed t → IsSoundTree t
sound t w = record {
  numbers = w.numbers;
  no_zero = λ n node is same. let none = w.no_zero in let at : node_at t 0 ≡ Some node = ap (node_at t) (sym same) ∙ is in cc;
  each_node = w.each_node;
  root_is_directory = w.root_is_directory;
  root_is_unnamed = λ d name n is same.
      let one : 1 ≤ length (names_of t root) = counted_from root 0 t.nodes d (entry-names t d name root (is ∙ ap Some same)) in
      absurd (omega (arith, ap length w.root_is_unnamed));
  entries_are_nodes = w.entries_are_nodes;
  directories_once = λ n is. once-same t n (w.directories_once n is);
  named_are_reached = w.named_are_reached;
  removed_are_empty = λ d is other none. w.removed_are_empty d is (parent-unnamed t (ordered t w.each_node) d other none);
}

nothing : (o : Option Node) → ((node : Node) → o ≡ Some node → ⊥) → o ≡ None
nothing None none = refl
nothing (Some node) none = absurd (none node refl)

pub well_formed : (t : Tree) → IsSoundTree t → IsWellFormed t
well_formed t s = record {
  numbers = s.numbers;
  no_zero = nothing (node_at t 0) (λ node is. s.no_zero 0 node is refl);
  each_node = s.each_node;
  root_is_directory = s.root_is_directory;
  root_is_unnamed = uncounted_from root 0 t.nodes (unnamed_from t (ordered t s.each_node) root (λ d name is. s.root_is_unnamed d name root is refl));
  entries_are_nodes = s.entries_are_nodes;
  directories_once = λ n is. same-once t (ordered t s.each_node) n (s.directories_once n is);
  named_are_reached = s.named_are_reached;
  removed_are_empty = λ d is none. let found = parent-none_named t d none in s.removed_are_empty d is found.0 found.1;
}

pub well_formed-iff-sound : (t : Tree) → IsWellFormed t ↔ IsSoundTree t
well_formed-iff-sound t = (sound t, well_formed t)

-- ---- parents

pub entry-parent : (t : Tree) → IsSoundTree t → (n d : ℕ) (name : Bytes) → is_directory_at t n ≡ true → find_entry t d name ≡ Some n → parent t n ≡ Some d
entry-parent t s n d name is found =
    let other : n ≢ root = s.root_is_unnamed d name n found in
    elim (parent t n) as (λ p. parent t n ≡ p → p ≡ Some d) [
      | None ↦ λ none. absurd ((parent-none_named t n none).1 d name found)
      | Some e ↦ λ above. let entry = parent-entry t (ordered t s.each_node) n e other above in ap Some (s.directories_once n is e entry.0 d name entry.1 found).0
    ] refl

pub parent-iff-entry : (t : Tree) → IsWellFormed t → (n d : ℕ) → n ≢ root → is_directory_at t n ≡ true
    → (parent t n ≡ Some d) ↔ ((name : Bytes) × (find_entry t d name ≡ Some n))
parent-iff-entry t w n d other is = (
  λ above. parent-entry t (ordered t w.each_node) n d other above,
  λ found. entry-parent t (sound t w) n d found.0 is found.1,
)
