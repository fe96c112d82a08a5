-- The parts of rename(2).
use Rattle.std.specs.Prelude.{ℕ, not, ◌&&◌, Option, is_some}
use Rattle.pv_model.specs.declared.errno.Errno.TheVariants.{ENOTDIR, EISDIR, EINVAL, ENOTEMPTY}
use Rattle.pv_model.specs.Machine.{Attempt, ◌>>◌, refuse_if, is_empty, contains_directory, is_directory_there, entries_there, Tree, is_directory_at}

-- the check that a node may get a name in a directory in place of the node with that name
abbrev pub check_move : Tree → ℕ → ℕ → Option ℕ → Attempt (Unit {0})
check_move t n e there = do
  refuse_if EINVAL (contains_directory t n e)
  refuse_if EISDIR (is_directory_there t there && not (is_directory_at t n))
  refuse_if ENOTDIR (is_directory_at t n && is_some there && not (is_directory_there t there))
  refuse_if ENOTEMPTY (not (is_empty (entries_there t there)))
