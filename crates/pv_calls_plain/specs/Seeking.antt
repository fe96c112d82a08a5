-- Offsets of open files.
use Rattle.std.specs.Prelude.{◌≡◌, ℕ, false, IsSome, Some}
use Rattle.pv_model.specs.Machine.{at_number, OpenFile, State, is_directory_at}

-- a number of an open file that does not refer to a directory
pub record IsSeekable (s : State) (file : ℕ) : Type 0 where
  pub opened : IsSome (at_number s.files file)
  pub plain : (f : OpenFile) → at_number s.files file ≡ Some f → is_directory_at s.tree f.node ≡ false
