-- The nodes that are kept, and those that the collection removes.
use Rattle.std.proofs.Common.{◌≡◌, ◌≢◌, ℕ, zero, suc, Bool, true, false, ◌||◌, ◌==◌, List, Option, None, Some, is_some, refl, ap, ap₂, sym, ◌∙◌, arith, ⊎_elim}
use Rattle.std.specs.Prelude.{slice_index}
use Rattle.std.proofs.lemmas.Bool.{ne_eqb, cases_eq}
use Rattle.pv_model.specs.Machine.{among, Numbered, at_number, without_number, keep, keep_if, Node, Tree, root, node_at}
use Rattle.pv_dirs.specs.Trees.{without_node}
use Rattle.pv_laws_trees.specs.Preserved.{EachIsNamed, numbers_wanted}
use Rattle.pv_laws_trees.proofs.NumberedMaps.{same_numbered, at_number-keep, keep-passes, keep-fails, length-keep, length-without_number, without_number-same, without_number-other}
use Rattle.pv_laws_trees.proofs.Collection.{only_nodes_all, all_only_nodes, wanted-is}
use Rattle.pv_laws_trees.proofs.NameCounts.{name_count, named-is, is_positive}
use Rattle.pv_laws_trees.proofs.ReferenceCounts.{held-is}
use Rattle.pv_tree.specs.Holding.{referenced_numbers, IsUnheld, collected}

-- ---- the nodes that are kept

-- whether a node is the root, or has a name or a reference
abbrev pub is_preserved : ℕ → ℕ → ℕ → Bool
is_preserved n names holds = (root == n) || (is_positive names || is_positive holds)

pub wanted-counted : (t : Tree) (holds : List ℕ) (n : ℕ) → among (numbers_wanted t (referenced_numbers holds)) n ≡ is_preserved n (name_count t n) (slice_index holds n)
wanted-counted t holds n =
    wanted-is t (referenced_numbers holds) n ∙ ap₂ (λ a b. (root == n) || (a || b)) (named-is t n) (held-is holds n)

-- if each node is kept, none is removed
pub collected-all : (t : Tree) (holds : List ℕ) → ((n : ℕ) → is_some (node_at t n) ≡ true → is_preserved n (name_count t n) (slice_index holds n) ≡ true) → collected t holds ≡ t
collected-all t holds each =
    only_nodes_all t (numbers_wanted t (referenced_numbers holds)) (λ n node at. wanted-counted t holds n ∙ each n (ap is_some at))

-- if none is removed, each node is kept
pub all-preserved : (t : Tree) (holds : List ℕ) → collected t holds ≡ t → (n : ℕ) → is_some (node_at t n) ≡ true → is_preserved n (name_count t n) (slice_index holds n) ≡ true
all-preserved t holds same n is = sym (wanted-counted t holds n) ∙ all_only_nodes t (numbers_wanted t (referenced_numbers holds)) same n is

-- if also nothing is referenced, each node except the root has a name
pub unheld-named : (t : Tree) (holds : List ℕ) → collected t holds ≡ t → IsUnheld holds → EachIsNamed t
unheld-named t holds same unheld = record {
  named = λ n other is. named-is t n ∙ by n other (name_count t n) (ap (λ k. is_preserved n (name_count t n) k) (sym (unheld n)) ∙ all-preserved t holds same n is);
}
  where
    by : (n : ℕ) → n ≢ root → (names : ℕ) → is_preserved n names 0 ≡ true → is_positive names ≡ true
    by n other zero is = let top : (root == n) ≡ false = ne_eqb root n (λ e. other (sym e)) in let preserved : is_preserved n 0 0 ≡ false = ap (λ b. b || false) top in cc
    by n other (suc names) is = refl

keep_if_none : (b : Bool) → keep_if {X = Node} b None ≡ None
keep_if_none true = refl
keep_if_none false = refl

keep-there : (test : ℕ → Bool) (xs : Numbered Node) (m : ℕ) → (is_some (at_number xs m) ≡ true → test m ≡ true) → at_number (keep test xs) m ≡ at_number xs m
keep-there test xs m passes = by (at_number xs m) refl
  where
    by : (o : Option Node) → at_number xs m ≡ o → at_number (keep test xs) m ≡ at_number xs m
    by None at = at_number-keep test xs m ∙ ap (keep_if (test m)) at ∙ keep_if_none (test m) ∙ sym at
    by (Some node) at = keep-passes test xs m (passes (ap is_some at))

-- if all except one are kept, that one is removed
pub collected-one : (t : Tree) (holds : List ℕ) (n : ℕ) → is_preserved n (name_count t n) (slice_index holds n) ≡ false
    → ((m : ℕ) → m ≢ n → is_some (node_at t m) ≡ true → is_preserved m (name_count t m) (slice_index holds m) ≡ true) → collected t holds ≡ without_node t n
collected-one t holds n out others =
    let test = among (numbers_wanted t (referenced_numbers holds)) in
    ap (λ nodes. record t { nodes = nodes })
    (same_numbered (keep test t.nodes) (without_number t.nodes n) (length-keep test t.nodes ∙ sym (length-without_number t.nodes n))
    (λ m. ⊎_elim
    (λ same. ap (at_number (keep test t.nodes)) same ∙ keep-fails test t.nodes n (wanted-counted t holds n ∙ out)
    ∙ sym (without_number-same t.nodes n) ∙ ap (at_number (without_number t.nodes n)) (sym same))
    (λ other. keep-there test t.nodes m (λ is. wanted-counted t holds m ∙ others m other is) ∙ sym (without_number-other t.nodes n m other))
    (cases_eq m n)))
