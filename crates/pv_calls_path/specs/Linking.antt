-- The parts of link(2).
use Rattle.std.specs.Prelude.{ℕ, is_some}
use Rattle.pv_model.specs.declared.errno.Errno.TheVariants.{EEXIST, EPERM}
use Rattle.pv_model.specs.declared.place.Place.{Place}
use Rattle.pv_model.specs.Machine.{Attempt, ◌>>=◌, ◌>>◌, demand, refuse_if, Effect, answers, name_of, node_of, with_room, State, with_tree, is_directory_at, with_entry}

-- gives node n another name at a place whose entry is absent
abbrev pub link_at : State → ℕ → Place → Attempt Effect
link_at s n place = do
  refuse_if EPERM (is_directory_at s.tree n)
  refuse_if EEXIST (is_some (node_of place))
  (d, name) ← demand EEXIST (name_of place)
  after ← with_room (with_tree s (with_entry s.tree d name n))
  answers after 0
