-- One side of a search of pairs: a machine and its visited states.
use Rattle.std.specs.Prelude.{◌≡◌, ◌⊎◌, ℕ, ◌<◌, ◌≤◌, false, List, [], ◌∷◌, ◌++◌, length, bytes_eq, Option, None, Some}
use Rattle.std.specs.List.{list_any}
use Rattle.pv_explore.specs.declared.states.Visit.{Visit}
use Rattle.pv_explore.specs.declared.states.Visit.TheVariants.{Known, Full, New}
use Rattle.pv_explore.specs.Rows.{number_in, IsAmong}
use Rattle.pv_model.specs.Machine.{Bytes, State}

-- the state before the first step, and the encodings of the visited states
pub record SideStates : Type 0 where
  pub first : State
  pub keys : List Bytes

-- the number of a visited state, given the number of states before the visit
abbrev pub visit_number : Visit → ℕ → Option ℕ
visit_number (Known number) before = Some number
visit_number Full before = None
visit_number New before = Some before

-- a state that is new was added, and there were fewer than `limit` states
abbrev pub IsAddedTo : ℕ → List Bytes → List Bytes → Bytes → Type 0
IsAddedTo limit old new key = (list_any (bytes_eq key) old ≡ false) × (length old < limit) × (new ≡ old ++ key ∷ [])

-- a state was visited: it has this number, or it is new and the limit is reached
abbrev pub IsNumbered : ℕ → List Bytes → List Bytes → Bytes → Option ℕ → Type 0
IsNumbered limit old new key None = (list_any (bytes_eq key) old ≡ false) × (limit ≤ length old) × (new ≡ old)
IsNumbered limit old new key (Some number) = (number ≡ number_in new key) × IsAmong new key × ((new ≡ old) ⊎ IsAddedTo limit old new key)
