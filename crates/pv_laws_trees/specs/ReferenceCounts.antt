-- The nodes that remain in a tree with reference counts.
use Rattle.std.specs.Prelude.{ℕ, zero, suc, List, [], ◌∷◌}
use Rattle.pv_model.specs.Machine.{Tree}
use Rattle.pv_laws_trees.specs.Preserved.{preserved}

abbrev pub held_from : ℕ → List ℕ → List ℕ
held_from k [] = []
held_from k (zero ∷ holds) = held_from (suc k) holds
held_from k (suc times ∷ holds) = k ∷ held_from (suc k) holds

-- the numbers with references
unfoldable pub referenced_numbers : List ℕ → List ℕ
referenced_numbers holds = held_from 0 holds

-- the tree restricted to the root, the named nodes and those with references
abbrev pub collected : Tree → List ℕ → Tree
collected t holds = preserved t (referenced_numbers holds)
