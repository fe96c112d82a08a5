-- Each node of an image's tree is held by its inode.
use Rattle.std.proofs.Common.{◌≡◌, ℕ, zero, suc, ◌≤◌, None, Some, subst, sym, ◌∙◌, arith}
use Rattle.pv_model.specs.Machine.{Bytes, Holds, HoldsAny, IsImageOf, Node, Tree, node_at}
use Rattle.pv_laws_trees.proofs.NumberedMaps.{at_number-below}

module _ (bytes : Bytes) (t : Tree) (is : IsImageOf bytes t) where
  pub node-within : (n : ℕ) (node : Node) → node_at t n ≡ Some node → (1 ≤ n) × (n ≤ t.inodes)
  node-within n node at = (by n at, let numbers = is.well_formed.numbers in omega (arith, at_number-below t.nodes n node at, numbers))
    where
      by : (m : ℕ) → node_at t m ≡ Some node → 1 ≤ m
      by zero at = let both : None ≡ Some node = sym is.well_formed.no_zero ∙ at in cc both
      by (suc m) at = omega arith

  pub node-held : (n : ℕ) (node : Node) → node_at t n ≡ Some node → Holds t.version bytes t n node
  node-held n node at = let within = node-within n node at in subst (HoldsAny t.version bytes t n) at (is.each_inode n within.0 within.1)
