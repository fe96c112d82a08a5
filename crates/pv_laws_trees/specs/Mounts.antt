-- Laws of mounting.
use Rattle.std.specs.Prelude.{◌≡◌, ◌↔◌, Ok}
use Rattle.pv_model.specs.Machine.{Bytes, IsImageOf, mounted, booted, State, Tree}
use Rattle.pv_model.specs.Start.{IsAccepted}

-- bytes mount as a tree if and only if they are an image of that tree
abbrev pub MountsImages : Type 0
MountsImages = (bytes : Bytes) (t : Tree) → (mounted bytes ≡ Ok t) ↔ IsImageOf bytes t

-- bytes are an image of at most one tree
abbrev pub HoldsOneTree : Type 0
HoldsOneTree = (bytes : Bytes) (t u : Tree) → IsImageOf bytes t → IsImageOf bytes u → t ≡ u

-- bytes mount as a tree, and a machine boots on it
pub record Boots (bytes : Bytes) : Type 0 where
  pub tree : Tree
  pub state : State
  pub mounts : mounted bytes ≡ Ok tree
  pub boots : booted tree ≡ Ok state

-- an image is accepted if and only if it mounts and boots
abbrev pub AcceptedImagesBoot : Type 0
AcceptedImagesBoot = (bytes : Bytes) → IsAccepted bytes ↔ Boots bytes
