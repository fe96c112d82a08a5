-- Whether an image has room for a tree.
use Rattle.std.specs.Prelude.{◌≡◌, if◌then◌else◌, Option, None, Some, Result, IfErr, OnOk, OnErr}
use Rattle.pv_dirs.specs.OfInodes.declared.space.Space.{Space}
use Rattle.pv_dirs.specs.OfInodes.declared.space.Space.TheVariants.{Full, TooBig}
use Rattle.pv_model.specs.Machine.{is_too_long, fits, Tree}
use Rattle.pv_tree.specs.Holding.{HeldTree}

-- the error of a tree that does not fit: a node exceeds the maximum length, or the image has too few inodes or blocks
abbrev pub room_error : Tree → Option Space
room_error t = if is_too_long t then Some TooBig else (if fits t then None else Some Full)

-- the outcome of a change that an image may lack room for: the value is `next`, whose tree fits; or the value does not
-- change, and the error is that of the tree of `next`
pub record ChangesIfRoom {A S : Type 0} (tree_of : S → Tree) (result : Result A Space) (old new next : S) : Type 0 where
  pub ok : OnOk result (new ≡ next)
  pub err : OnErr result (new ≡ old)
  pub allowed : OnOk result (room_error (tree_of next) ≡ None)
  pub refused : IfErr result (λ why. room_error (tree_of next) ≡ Some why)

-- the outcome of a change of a tree
abbrev pub TreeChanges : {A : Type 0} → Result A Space → Tree → Tree → Tree → Type 0
TreeChanges result old new next = ChangesIfRoom (λ t. t) result old new next

-- the outcome of a change of a tree with reference counts
abbrev pub HeldTreeChanges : {A : Type 0} → Result A Space → HeldTree → HeldTree → HeldTree → Type 0
HeldTreeChanges result old new next = ChangesIfRoom (λ h. h.tree) result old new next
