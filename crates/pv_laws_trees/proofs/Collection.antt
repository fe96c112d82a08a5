-- The collection of unreferenced nodes.
use Rattle.std.proofs.Common.{◌≡◌, ℕ, Bool, true, false, ◌&&◌, ◌||◌, ◌==◌, [], List, Option, None, Some, is_some, refl, ap, ◌∙◌, sym, ⊎_elim}
use Rattle.std.specs.Cmp.{both_ways}
use Rattle.std.proofs.lemmas.Bool.{eq-eqb, cases_eq, cases_Bool, or_left, or_right, or_cases}
use Rattle.std.proofs.lemmas.List.Folds.{list_any-append}
use Rattle.pv_model.specs.Machine.{Bytes, among, keep_if, Node, directory_node, file_node, link_node, Tree, root, node_at, entries_of, entries_at, is_directory, is_directory_at, find_entry, named_numbers, IsReached, from_root, by_entry, IsWellFormed}
use Rattle.pv_model.specs.Held.{only_nodes}
use Rattle.pv_laws_trees.specs.Preserved.{EachIsNamed, numbers_wanted, preserved}
use Rattle.pv_laws_trees.specs.Tree.{IsSoundTree}
use Rattle.pv_laws_trees.proofs.NumberedMaps.{keep-all, keep-keep, keep-agree, keep-some, keep-passes, keep-fails, at_number-keep, length-keep}
use Rattle.pv_laws_trees.proofs.Trees.{ordered, among-entry, entry-among, sound}
use Rattle.pv_laws_trees.proofs.ListTests.{implied}

-- a tree whose nodes are all among the numbers is unchanged
pub only_nodes_all : (t : Tree) (ns : List ℕ) → ((n : ℕ) (node : Node) → node_at t n ≡ Some node → among ns n ≡ true) → only_nodes t ns ≡ t
only_nodes_all t ns all = ap (λ nodes. record t { nodes = nodes }) (keep-all (among ns) t.nodes all)

-- and if a tree is unchanged, all its nodes are among the numbers
pub all_only_nodes : (t : Tree) (ns : List ℕ) → only_nodes t ns ≡ t → (n : ℕ) → is_some (node_at t n) ≡ true → among ns n ≡ true
all_only_nodes t ns same n is = by (node_at t n) refl is
  where
    by : (o : Option Node) → node_at t n ≡ o → is_some o ≡ true → among ns n ≡ true
    by None at is = cc is
    by (Some node) at is = (keep-some (among ns) t.nodes n node (ap (λ u. node_at u n) same ∙ at)).0

-- ---- the wanted numbers

pub wanted-is : (t : Tree) (held : List ℕ) (n : ℕ) → among (numbers_wanted t held) n ≡ ((root == n) || (among (named_numbers t) n || among held n))
wanted-is t held n = ap (λ b. (root == n) || b) (list_any-append (λ m. m == n) (named_numbers t) held)

pub wanted-named : (t : Tree) (held : List ℕ) (n : ℕ) → among (named_numbers t) n ≡ true → among (numbers_wanted t held) n ≡ true
wanted-named t held n named = wanted-is t held n ∙ or_right (root == n) _ (or_left (among (named_numbers t) n) (among held n) named)

pub wanted-held : (t : Tree) (held : List ℕ) (n : ℕ) → among held n ≡ true → among (numbers_wanted t held) n ≡ true
wanted-held t held n is = wanted-is t held n ∙ or_right (root == n) _ (or_right (among (named_numbers t) n) (among held n) is)

-- the same references keep the same nodes
pub preserved-agree : (t : Tree) (ms ns : List ℕ) → ((n : ℕ) → among ms n ≡ among ns n) → preserved t ms ≡ preserved t ns
preserved-agree t ms ns same =
    ap (λ nodes. record t { nodes = nodes })
    (keep-agree (among (numbers_wanted t ms)) (among (numbers_wanted t ns)) t.nodes
    (λ n. wanted-is t ms n ∙ ap (λ b. (root == n) || (among (named_numbers t) n || b)) (same n) ∙ sym (wanted-is t ns n)))

-- if each node other than the root has a name, no node is collected, whatever is referenced
pub preserved_all : (t : Tree) (held : List ℕ) → EachIsNamed t → preserved t held ≡ t
preserved_all t held each =
    only_nodes_all t (numbers_wanted t held) (λ n node is.
    ⊎_elim
    (λ same. or_left (root == n) _ (eq-eqb root n (sym same)))
    (λ other. wanted-named t held n (each.named n other (ap is_some is)))
    (cases_eq n root))

-- ---- the parts of a well-formed tree that stay

no_entries : (o : Option Node) → (is_directory o ≡ true → entries_of o ≡ []) → entries_of o ≡ []
no_entries None empty = refl
no_entries (Some (directory_node es)) empty = empty refl
no_entries (Some (file_node executable bytes)) empty = refl
no_entries (Some (link_node text)) empty = refl

-- numbers that include the root and all named nodes
pub record Covers (t : Tree) (ns : List ℕ) : Type 0 where
  pub top : among ns root ≡ true
  pub named : (n : ℕ) → among (named_numbers t) n ≡ true → among ns n ≡ true

pub wanted-covers : (t : Tree) (held : List ℕ) → Covers t (numbers_wanted t held)
wanted-covers t held = record { top = refl; named = wanted-named t held }

-- a node that is not among them has no entries
unwanted_is_empty : (t : Tree) (ns : List ℕ) → IsSoundTree t → Covers t ns → (d : ℕ) → among ns d ≡ false → entries_at t d ≡ []
unwanted_is_empty t ns s covers d out =
    no_entries (node_at t d) (λ is. s.removed_are_empty d is
    (λ same. let top : among ns d ≡ true = ap (among ns) same ∙ covers.top in cc)
    (λ e name found. let in' = covers.named d (entry-among t e name d found) in cc))

-- all entries stay
pub entries-only : (t : Tree) (ns : List ℕ) → IsSoundTree t → Covers t ns → (d : ℕ) → entries_at (only_nodes t ns) d ≡ entries_at t d
entries-only t ns s covers d =
    ⊎_elim
    (λ in'. ap entries_of (keep-passes (among ns) t.nodes d in'))
    (λ out. ap entries_of (keep-fails (among ns) t.nodes d out) ∙ sym (unwanted_is_empty t ns s covers d out))
    (cases_Bool (among ns d))

pub find-only : (t : Tree) (ns : List ℕ) → IsSoundTree t → Covers t ns → (d : ℕ) (name : Bytes) → find_entry (only_nodes t ns) d name ≡ find_entry t d name
find-only t ns s covers d name = ap (λ es. Rattle.std.specs.FinMap.Entries.find Rattle.pv_laws_trees.proofs.DirectoryEntries.by_name name es) (entries-only t ns s covers d)

-- a path from the root stays if its entries stay
pub reached-along : (t u : Tree) → ((d : ℕ) (name : Bytes) (n : ℕ) → find_entry t d name ≡ Some n → find_entry u d name ≡ Some n) → (n : ℕ) → IsReached t n → IsReached u n
reached-along t u stay _ from_root = from_root
reached-along t u stay _ (by_entry d name n above is) = by_entry d name n (reached-along t u stay d above) (stay d name n is)

was_directory : (b : Bool) (o : Option Node) → is_directory (keep_if b o) ≡ true → is_directory o ≡ true
was_directory true o is = is
was_directory false o is = cc

-- a collected tree is well-formed
pub only-sound : (t : Tree) (ns : List ℕ) → IsSoundTree t → Covers t ns → IsSoundTree (only_nodes t ns)
only-sound t ns s covers =
    let u : Tree = only_nodes t ns in
    let same = find-only t ns s covers in
    let was : (d : ℕ) (name : Bytes) (n : ℕ) → find_entry u d name ≡ Some n → find_entry t d name ≡ Some n = λ d name n is. sym (same d name) ∙ is in
    let directory : (n : ℕ) → is_directory_at u n ≡ true → is_directory_at t n ≡ true =
    λ n is. was_directory (among ns n) (node_at t n) (ap is_directory (sym (at_number-keep (among ns) t.nodes n)) ∙ is) in
    record {
      numbers = length-keep (among ns) t.nodes ∙ s.numbers;
      no_zero = λ n node is. s.no_zero n node (keep-some (among ns) t.nodes n node is).1;
      each_node = λ n node is. s.each_node n node (keep-some (among ns) t.nodes n node is).1;
      root_is_directory = ap is_directory (keep-passes (among ns) t.nodes root covers.top) ∙ s.root_is_directory;
      root_is_unnamed = λ d name n is. s.root_is_unnamed d name n (was d name n is);
      entries_are_nodes = λ d name n is.
          ap is_some (keep-passes (among ns) t.nodes n (covers.named n (entry-among t d name n (was d name n is)))) ∙ s.entries_are_nodes d name n (was d name n is);
      directories_once = λ n is d name e other a b. s.directories_once n (directory n is) d name e other (was d name n a) (was e other n b);
      named_are_reached = λ d name n is. reached-along t u (λ e other m found. same e other ∙ found) n (s.named_are_reached d name n (was d name n is));
      removed_are_empty = λ d is other none.
          entries-only t ns s covers d ∙ s.removed_are_empty d (directory d is) other (λ e name found. none e name (same e name ∙ found));
    }

-- the same numbers are named
pub among-only : (t : Tree) (ns : List ℕ) → IsSoundTree t → Covers t ns → (n : ℕ) → among (named_numbers (only_nodes t ns)) n ≡ among (named_numbers t) n
among-only t ns s covers n =
    let u : Tree = only_nodes t ns in
    let same = find-only t ns s covers in
    both_ways (among (named_numbers u) n) (among (named_numbers t) n)
    (λ is. let found = among-entry u (ordered u (only-sound t ns s covers).each_node) n is in entry-among t found.0 found.1 n (sym (same found.0 found.1) ∙ found.2))
    (λ is. let found = among-entry t (ordered t s.each_node) n is in entry-among u found.0 found.1 n (same found.0 found.1 ∙ found.2))

-- references can be released one at a time
pub preserved_in_turn : (t : Tree) (many few : List ℕ) → IsSoundTree t → ((n : ℕ) → among few n ≡ true → among many n ≡ true) → preserved (preserved t many) few ≡ preserved t few
preserved_in_turn t many few s fewer =
    let u : Tree = preserved t many in
    let same : (n : ℕ) → among (numbers_wanted u few) n ≡ among (numbers_wanted t few) n = λ n.
    wanted-is u few n ∙ ap (λ b. (root == n) || (b || among few n)) (among-only t (numbers_wanted t many) s (wanted-covers t many) n) ∙ sym (wanted-is t few n) in
    let weaker : (n : ℕ) → among (numbers_wanted t few) n ≡ true → among (numbers_wanted t many) n ≡ true = λ n is.
    ⊎_elim (λ top. or_left (root == n) _ top)
    (λ rest. ⊎_elim (λ named. wanted-named t many n named) (λ held. wanted-held t many n (fewer n held)) (or_cases (among (named_numbers t) n) (among few n) rest))
    (or_cases (root == n) _ (sym (wanted-is t few n) ∙ is)) in
    ap (λ nodes. record t { nodes = nodes })
    (keep-keep (among (numbers_wanted t many)) (among (numbers_wanted u few)) t.nodes
    ∙ keep-agree (λ n. among (numbers_wanted u few) n && among (numbers_wanted t many) n) (among (numbers_wanted t few)) t.nodes
    (λ n. ap (λ b. b && among (numbers_wanted t many) n) (same n) ∙ implied (among (numbers_wanted t few) n) (among (numbers_wanted t many) n) (weaker n)))

pub in_turn : (t : Tree) (many few : List ℕ) → IsWellFormed t → ((n : ℕ) → among few n ≡ true → among many n ≡ true) → preserved (preserved t many) few ≡ preserved t few
in_turn t many few w fewer = preserved_in_turn t many few (sound t w) fewer
