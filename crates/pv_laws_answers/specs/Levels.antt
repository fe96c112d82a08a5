-- The levels of a decision are the steps of the derivation that an entry governs a place.
use Rattle.std.specs.Prelude.{◌≡◌, ℕ, if◌then◌else◌, ◌==◌, List, [], ◌∷◌, Option, None, Some}
use Rattle.pv_model.specs.declared.place.Place.{Place}
use Rattle.pv_model.specs.declared.target.Target.{Target}
use Rattle.pv_model.specs.declared.target.Target.TheVariants.{Directory, Name}
use Rattle.pv_model.specs.Answers.Levels.{Level, level, levels}
use Rattle.pv_model.specs.Machine.{Bytes, GovernsName, Tree, root, parent, IsWellFormed, Table, entry_for, target_of, Governs, own, from_above, governing_entry}
use Rattle.pv_model.specs.Closed.{by_name, by_directory}
use Rattle.pv_laws_access.specs.Tables.{GovernsPlace, unnamed, without_node, directory, named}

-- the last level has this entry, or none, and no level before it has one
abbrev pub LevelsLeadTo : Option ℕ → List Level → Type 0
LevelsLeadTo found [] = ⊥
LevelsLeadTo found (l ∷ []) = l.entry ≡ found
LevelsLeadTo found (l ∷ next ∷ ls) = (l.entry ≡ None) × LevelsLeadTo found (next ∷ ls)

module _ (t : Tree) (table : Table) where
  -- the levels of a derivation that an entry governs a directory
  abbrev pub directory_steps : (d k : ℕ) → Governs t table d k → List Level
  directory_steps _ _ (own d k is) = level t table (Directory d) ∷ []
  directory_steps _ _ (from_above d above k not_root none up governs) = level t table (Directory d) ∷ directory_steps above k governs

  -- the levels of a derivation that an entry governs a name
  abbrev pub name_steps : (d : ℕ) (name : Bytes) (k : ℕ) → GovernsName t table d name k → List Level
  name_steps d name _ (by_name k is) = level t table (Name d name) ∷ []
  name_steps d name _ (by_directory k none governs) = level t table (Name d name) ∷ directory_steps d k governs

  -- the levels of a derivation that an entry governs a place
  abbrev pub place_steps : (place : Place) (k : ℕ) → GovernsPlace t table place k → List Level
  place_steps _ _ (unnamed n k governs) = directory_steps n k governs
  place_steps _ _ (without_node d name k governs) = name_steps d name k governs
  place_steps _ _ (directory d name n k is governs) = directory_steps n k governs
  place_steps _ _ (named d name n k plain governs) = name_steps d name k governs

  -- the directory above a target: the directory of a name, or the parent of a directory
  abbrev pub above_target : Target → Option ℕ
  above_target (Directory d) = if d == root then None else parent t d
  above_target (Name d name) = Some d

  -- levels go up from a target to the first that has an entry, or to the top
  pub data AreClimbed : Target → List Level → Type 0 where
    found : (target : Target) (k : ℕ) → entry_for table target ≡ Some k → AreClimbed target (level t table target ∷ [])
    at_top : (target : Target) → entry_for table target ≡ None → above_target target ≡ None → AreClimbed target (level t table target ∷ [])
    continues : (target : Target) (d : ℕ) (ls : List Level) → entry_for table target ≡ None → above_target target ≡ Some d → AreClimbed (Directory d) ls
        → AreClimbed target (level t table target ∷ ls)

-- if an entry governs a place, the levels are the steps of the derivation
abbrev pub LevelsAreTheDerivation : Type 0
LevelsAreTheDerivation = (t : Tree) (table : Table) (place : Place) (k : ℕ) (governs : GovernsPlace t table place k) → levels t table place ≡ place_steps t table place k governs

-- the levels end at the entry that governs the place; if there is none, no level has an entry
abbrev pub LevelsLeadToTheGovernor : Type 0
LevelsLeadToTheGovernor = (t : Tree) (table : Table) (place : Place) → LevelsLeadTo (governing_entry t table place) (levels t table place)

-- in every well-formed tree, the levels go up from the place
abbrev pub LevelsAreClimbed : Type 0
LevelsAreClimbed = (t : Tree) (table : Table) (place : Place) → IsWellFormed t → AreClimbed t table (target_of t place) (levels t table place)
