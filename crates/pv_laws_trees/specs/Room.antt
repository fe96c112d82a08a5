-- Laws of the room that nodes need.
use Rattle.std.specs.Prelude.{◌≡◌, ℕ, ◌≤◌, IsTrue, Option, None, Some}
use Rattle.pv_model.specs.declared.version.Version.{Version}
use Rattle.pv_model.specs.Machine.{node_length, need, is_too_long, fits, Node, Tree, node_at}

-- a longer content does not need fewer blocks
abbrev pub NeedGrows : Type 0
NeedGrows = (v : Version) (m n : ℕ) → m ≤ n → need v m ≤ need v n

-- there is no node, or it is no longer than the other
abbrev pub IsNoLonger : Version → Option Node → Option Node → Type 0
IsNoLonger v None other = Unit {0}
IsNoLonger v (Some node) None = ⊥
IsNoLonger v (Some node) (Some other) = node_length v node ≤ node_length v other

-- a tree of the same sizes, each of whose nodes is no longer than that of the other tree
pub record IsNoLarger (u t : Tree) : Type 0 where
  pub blocks : u.blocks ≡ t.blocks
  pub inodes : u.inodes ≡ t.inodes
  pub version : u.version ≡ t.version
  pub nodes : (n : ℕ) → IsNoLonger t.version (node_at u n) (node_at t n)

-- a tree with fewer or shorter nodes than one that fits also fits
abbrev pub SmallerFits : Type 0
SmallerFits = (t u : Tree) → IsNoLarger u t → IsTrue (fits t) → IsTrue (fits u)

-- if a tree with fewer or shorter nodes has a node that is too long, the other tree has one too
abbrev pub SmallerIsNotTooLong : Type 0
SmallerIsNotTooLong = (t u : Tree) → IsNoLarger u t → IsTrue (is_too_long u) → IsTrue (is_too_long t)
