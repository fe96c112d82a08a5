-- A tree whose nodes are all named is the tree of its named nodes.
use Rattle.std.proofs.Common.{◌≡◌, ◌==◌, ◌∷◌, is_some, ap, sym, ⊎_elim}
use Rattle.std.proofs.lemmas.Bool.{eq-eqb, cases_eq, or_left, or_right}
use Rattle.pv_model.specs.Machine.{named_tree, Tree, root, named_numbers}
use Rattle.pv_laws_trees.specs.Preserved.{EachIsNamed}
use Rattle.pv_laws_trees.proofs.Collection.{only_nodes_all}

pub named_tree-all : (t : Tree) → EachIsNamed t → named_tree t ≡ t
named_tree-all t each =
    only_nodes_all t (root ∷ named_numbers t) (λ n node is.
    ⊎_elim
    (λ same. or_left (root == n) _ (eq-eqb root n (sym same)))
    (λ other. or_right (root == n) _ (each.named n other (ap is_some is)))
    (cases_eq n root))
