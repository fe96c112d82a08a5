-- Open files and their users, as contracts see them.
use Rattle.std.specs.Prelude.{◌≡◌, ℕ, ◌<◌, ◌↔◌, List, length, replicate, slice_index, slice_set, IsSome, None}
use Rattle.pv_model.specs.declared.limits.TheConstants.{OPEN_FILES}
use Rattle.pv_model.specs.Machine.{Numbered, at_number, with_number, OpenFile}

-- the open files by number, and the number of users of each
pub record Counted : Type 0 where
  pub files : Numbered OpenFile
  pub users : List ℕ

-- the invariant: 128 numbers, and a number has an open file if and only if it has users
pub record IsCounted (c : Counted) : Type 0 where
  pub slots : length c.files ≡ OPEN_FILES
  pub counts : length c.users ≡ OPEN_FILES
  pub used : (k : ℕ) → IsSome (at_number c.files k) ↔ (0 < slice_index c.users k)

abbrev pub no_files : Counted
no_files = record { files = replicate OPEN_FILES None; users = replicate OPEN_FILES 0 }

-- with a new open file under a number, which has one user
abbrev pub with_opened : Counted → ℕ → OpenFile → Counted
with_opened c k f = record { files = with_number c.files k f; users = slice_set c.users k 1 }

-- with another open file under a number
abbrev pub counted_with_file : Counted → ℕ → OpenFile → Counted
counted_with_file c k f = record c { files = with_number c.files k f }

-- with another number of users
abbrev pub with_users : Counted → ℕ → ℕ → Counted
with_users c k n = record c { users = slice_set c.users k n }
