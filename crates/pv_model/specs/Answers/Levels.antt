-- The levels of a decision: the targets from a place upwards, to the entry that governs it.
use Rattle.std.specs.Prelude.{ℕ, zero, suc, if◌then◌else◌, List, [], ◌∷◌, length, flat_map, Option, None, Some}
use Rattle.pv_model.specs.declared.place.Place.{Place}
use Rattle.pv_model.specs.declared.place.Place.TheVariants.{At, Node as Unnamed}
use Rattle.pv_model.specs.declared.target.Target.{Target}
use Rattle.pv_model.specs.declared.target.Target.TheVariants.{Directory, Name}
use Rattle.pv_model.specs.Bytes.{Bytes}
use Rattle.pv_model.specs.Tree.{Tree, is_directory_at, above_or_none}
use Rattle.pv_model.specs.Unveil.{Table, entry_for}

-- a level: the target whose entry is looked up, and that entry, if there is one
pub record Level : Type 0 where
  pub target : Target
  pub entry : Option ℕ

module _ (t : Tree) (table : Table) where
  abbrev pub level : Target → Level
  level target = record { target = target; entry = entry_for table target }

  abbrev pub unless_found : Option ℕ → List Level → List Level
  unless_found None rest = rest
  unless_found (Some k) rest = []

  -- a level, followed by the levels above it if it has no entry
  abbrev pub and_above : Target → List Level → List Level
  and_above target rest = level target ∷ unless_found (entry_for table target) rest

  -- a directory and its ancestors, at most `steps` levels
  abbrev pub levels_within : ℕ → ℕ → List Level
  levels_within zero d = []
  levels_within (suc steps) d = and_above (Directory d) (flat_map (levels_within steps) (above_or_none t d))

  -- a directory and its ancestors, up to the first with an entry, the root or a removed directory
  abbrev pub directory_levels : ℕ → List Level
  directory_levels d = levels_within (suc (length t.nodes)) d

  abbrev pub name_levels : ℕ → Bytes → List Level
  name_levels d name = and_above (Name d name) (directory_levels d)

  unfoldable pub levels : Place → List Level
  levels (Unnamed n) = directory_levels n
  levels (At d name None) = name_levels d name
  levels (At d name (Some n)) = if is_directory_at t n then directory_levels n else name_levels d name
