-- Files without names.
use Rattle.std.specs.Prelude.{ℕ, Bool, ◌&&◌}
use Rattle.pv_model.specs.Machine.{is_file_at, is_empty, Tree, names_of}

abbrev pub is_unnamed : Tree → ℕ → Bool
is_unnamed t n = is_file_at t n && is_empty (names_of t n)
