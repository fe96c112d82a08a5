-- The parts of open(2).
use Rattle.std.specs.Prelude.{ℕ, not, ◌&&◌, is_some, is_none, option_and_then}
use Rattle.pv_model.specs.declared.errno.Errno.TheVariants.{EEXIST, ENOENT, ENOTDIR, EISDIR, ELOOP}
use Rattle.pv_model.specs.declared.open_flags.OpenFlags.{OpenFlags}
use Rattle.pv_model.specs.declared.place.Place.{Place}
use Rattle.pv_model.specs.Machine.{Attempt, ◌>>=◌, ◌>>◌, refuse_if, is_link, open_node, Effect, answers, with_room, node_of, name_of, least_free, Process, State, writes, node_at, is_directory}

-- the effect of open on a place, after the walk and its unveil check
abbrev pub open_place : State → ℕ → Process → OpenFlags → Place → Attempt Effect
open_place s pid me f place = do
  let node = option_and_then (node_at s.tree) (node_of place)
  refuse_if EEXIST (f.create && f.exclusive && is_some node)
  refuse_if ENOENT (is_none node && not f.create)
  refuse_if ELOOP (is_link node)
  refuse_if ENOTDIR (f.directory && not (is_directory node))
  refuse_if EISDIR (is_directory node && writes f.mode)
  after ← open_node s pid me f (name_of place) (node_of place)
  roomy ← with_room after
  answers roomy (least_free me.descriptors)
