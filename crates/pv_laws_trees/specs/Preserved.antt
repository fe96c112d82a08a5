-- Laws of the collection of unreferenced nodes.
use Rattle.std.specs.Prelude.{◌≡◌, ◌≢◌, ℕ, IsTrue, List, ◌∷◌, ◌++◌, is_some}
use Rattle.pv_model.specs.Machine.{among, Tree, root, node_at, named_numbers, IsWellFormed}
use Rattle.pv_model.specs.Held.{only_nodes}

-- each node other than the root has a name
pub record EachIsNamed (t : Tree) : Type 0 where
  pub named : (n : ℕ) → n ≢ root → IsTrue (is_some (node_at t n)) → IsTrue (among (named_numbers t) n)

-- the root, the named nodes and the referenced nodes
abbrev pub numbers_wanted : Tree → List ℕ → List ℕ
numbers_wanted t held = root ∷ named_numbers t ++ held

-- the tree with only these nodes
abbrev pub preserved : Tree → List ℕ → Tree
preserved t held = only_nodes t (numbers_wanted t held)

-- references can be released one at a time
abbrev pub ReleasesOneByOne : Type 0
ReleasesOneByOne =
    (t : Tree) (many few : List ℕ) → IsWellFormed t → ((n : ℕ) → IsTrue (among few n) → IsTrue (among many n))
    → preserved (preserved t many) few ≡ preserved t few
