-- The data stored with visited states, so that no step is made twice.
use Rattle.std.specs.Prelude.{◌≡◌, ◌≢◌, ℕ, Bool, ◌<◌, ◌≤◌, ◌⊎◌, false, List, [], ◌∷◌, ◌++◌, length, map, position, bytes_eq, slice_get, Option, None, Some}
use Rattle.std.specs.Global.{Vec}
use Rattle.std.specs.List.{AllByRecursion, list_any}
use Rattle.pv_explore.specs.declared.states.Visit.{Visit}
use Rattle.pv_explore.specs.declared.states.Visit.TheVariants.{Known, Full, New}
use Rattle.pv_explore.specs.Observing.{stays_inside}
use Rattle.pv_explore.specs.Plan.{state_key}
use Rattle.pv_explore.specs.Rows.{number_in, group_row, state_row, IsGroupVisited, IsRow}
use Rattle.pv_step_cache.specs.declared.cells.Cell.{Cell}
use Rattle.pv_step_cache.specs.declared.steps.CachedStep.{CachedStep}
use Rattle.pv_step_cache.specs.Edits.{cell_of, number_of_cell, owners, step_key}
use Rattle.pv_step_cache.specs.Cached.{AreCells, IsCachedBoth, IsStep}
use Rattle.pv_explore.specs.declared.states.Followed.{Followed}
use Rattle.pv_step_cache.specs.Steps.{Adds, WasCached, texts_in, texts_of}
use Rattle.pv_laws_states.specs.States.{IsValid}
use Rattle.pv_model.specs.Machine.{has_ended, Observer, Bytes, live_processes, State, process_at}
use Rattle.pv_step_lines.specs.OfSession.Running.{stepped}
use Rattle.pv_step_cache.specs.OfStateEncoding.Groups.{state_groups}
use Rattle.pv_step_cache.specs.OfStateEncoding.Encoded.{OwnedGroup, encoded}
use Rattle.pv_step_cache.specs.OfStateEncoding.Packed.{packed_all}

-- ---- in tables

module _ (parts groups : List Bytes) where
  abbrev pub group_number : List Bytes → ℕ
  group_number g = number_in groups (group_row parts g)

  abbrev pub AreCachedBoth : List OwnedGroup → Type 0
  AreCachedBoth cs = AllByRecursion (IsCachedBoth group_number (IsGroupVisited parts groups)) cs

  abbrev pub AreCellsOf : State → List Cell → Type 0
  AreCellsOf s cells = AreCells group_number (IsGroupVisited parts groups) s cells

  -- the cells are those of groups that are stored
  pub record AreCellsIn (cs : List OwnedGroup) (cells : List Cell) : Type 0 where
    pub are : cells ≡ map (cell_of group_number) cs
    pub cached : AreCachedBoth cs

  -- the cells are those of the state of a row
  pub record AreCellsAt (row : Bytes) (cells : List Cell) : Type 0 where
    pub state : State
    pub row_is : row ≡ state_row parts groups (state_groups state)
    pub cells_are : AreCellsOf state cells

module _ (observe : Observer Bytes) (parts groups : List Bytes) where
  abbrev pub IsCachedStepOf : CachedStep → Type 0
  IsCachedStepOf k = IsStep (group_number parts groups) (IsGroupVisited parts groups) observe k.key.items (texts_of k) k.edits.items

  abbrev pub AreCachedSteps : List CachedStep → Type 0
  AreCachedSteps steps = AllByRecursion IsCachedStepOf steps

  -- the stored data are right: the rows are of states, the cells that are not released are those of the states of their
  -- rows, and the cached transitions are right
  pub record IsFine (rows : List Bytes) (cells : List (Vec Cell)) (steps : List CachedStep) : Type 0 where
    pub rows_are : AllByRecursion (IsRow parts groups) rows
    pub few : length cells ≤ length rows
    pub cells_are : (k : ℕ) (cs : Vec Cell) (row : Bytes) → slice_get cells k ≡ Some cs → slice_get rows k ≡ Some row → (cs.items ≡ []) ⊎ AreCellsAt parts groups row cs.items
    pub steps_are : AreCachedSteps steps

-- the cells of state `number`, or none if they are not stored
abbrev pub AreStoredAt : List (Vec Cell) → ℕ → List Cell → Type 0
AreStoredAt cells number at = at ≢ [] → (v : Vec Cell) × (slice_get cells number ≡ Some v) × (at ≡ v.items)

-- the result of a step is that of a cached transition, and some process is live after it
pub record IsRecalled (cells : List (Vec Cell)) (steps : List CachedStep) (number pid : ℕ) (texts : List Bytes) (after : List Cell) : Type 0 where
  pub before : Vec Cell
  pub at : slice_get cells number ≡ Some before
  pub there : before.items ≢ []
  pub was : WasCached steps (step_key pid before.items) before.items texts after
  pub live : owners after ≢ []

-- the cells of each state are unchanged or released
pub record AreReleased (old new : List (Vec Cell)) : Type 0 where
  pub long : length new ≡ length old
  pub each : (k : ℕ) (cs : Vec Cell) → slice_get new k ≡ Some cs → (cs.items ≡ []) ⊎ (slice_get old k ≡ Some cs)

-- the row of a list of cells
abbrev pub cells_row : List Cell → Bytes
cells_row cells = packed_all (map number_of_cell cells)

-- nothing is appended, or the cells of state `number`
abbrev pub ArePushed : ℕ → Vec Cell → List (Vec Cell) → List (Vec Cell) → Type 0
ArePushed number cs old new = (new ≡ old) ⊎ ((new ≡ old ++ cs ∷ []) × (length old ≡ number))

-- nothing is appended, or a row, and possibly its cells
abbrev pub ArePlaced : Bytes → Vec Cell → List Bytes → List Bytes → List (Vec Cell) → List (Vec Cell) → Type 0
ArePlaced row cs rows rows_now cells cells_now = ((rows_now ≡ rows) × (cells_now ≡ cells)) ⊎ ((rows_now ≡ rows ++ row ∷ []) × ArePushed (length rows) cs cells cells_now)

-- a transition is cached with the cells of state `number`
pub record IsCachedBy (cells : List (Vec Cell)) (number pid : ℕ) (after : List Cell) (texts : List Bytes) (old new : List CachedStep) : Type 0 where
  pub before : Vec Cell
  pub at : slice_get cells number ≡ Some before
  pub there : before.items ≢ []
  pub adds : Adds old new pid before.items after texts

-- the cache is unchanged, or has this transition
abbrev pub MayKeep : List (Vec Cell) → ℕ → ℕ → List Cell → List Bytes → List CachedStep → List CachedStep → Type 0
MayKeep cells number pid after texts old new = (new ≡ old) ⊎ IsCachedBy cells number pid after texts old new

-- ---- by the encodings of states

-- the groups are those of a state
abbrev pub AreEncoded : List OwnedGroup → Type 0
AreEncoded cs = (s : State) × (cs ≡ encoded s)

-- the state has this number
abbrev pub HasNumber : List Bytes → ℕ → State → Type 0
HasNumber keys number t = slice_get keys number ≡ Some (state_key t)

-- these processes are live in state `number`
abbrev pub AreLiveAt : List Bytes → ℕ → List ℕ → Type 0
AreLiveAt keys number pids = (t : State) → IsValid t → HasNumber keys number t → pids ≡ map (λ p. p.0) (live_processes t.processes)

-- a state was visited: it has its number, or it is new, and was added if there were fewer than `limit` states
abbrev pub IsFoundIn : ℕ → List Bytes → List Bytes → Bytes → Visit → Type 0
IsFoundIn limit old new key (Known number) = (position (bytes_eq key) old ≡ Some number) × (new ≡ old)
IsFoundIn limit old new key Full = (list_any (bytes_eq key) old ≡ false) × (limit ≤ length old) × (new ≡ old)
IsFoundIn limit old new key New = (list_any (bytes_eq key) old ≡ false) × (length old < limit) × (new ≡ old ++ key ∷ [])

-- a state with these groups was visited
abbrev pub IsFoundBy : ℕ → List Bytes → List Bytes → List OwnedGroup → Visit → Type 0
IsFoundBy limit old new cs found = (t : State) → cs ≡ encoded t → IsFoundIn limit old new (state_key t) found

-- a step was taken from the cache: its texts, and the visit of the state after it, in which some process is live
pub record IsFollowed (observe : Observer Bytes) (limit : ℕ) (old new : List Bytes) (t : State) (pid : ℕ) (texts : List Bytes) (found : Visit) : Type 0 where
  pub texts_are : texts ≡ observe t pid (stepped t pid)
  pub live : has_ended (stepped t pid).after ≡ false
  pub found_is : IsFoundIn limit old new (state_key (stepped t pid).after) found

-- a process made a step in state `number`, with these texts and this state after it; `inside` is whether the step
-- changes at most the inside of its process, unless it kills the process
pub record IsObservedStep (observe : Observer Bytes) (keys : List Bytes) (number pid : ℕ) (texts : List Bytes) (inside : Bool) (after : State) : Type 0 where
  pub state : State
  pub whole : IsValid state
  pub number_is : HasNumber keys number state
  pub texts_are : texts ≡ observe state pid (stepped state pid)
  pub inside_is : inside ≡ stays_inside (process_at state pid)
  pub after_is : after ≡ (stepped state pid).after

-- state `number` satisfies the invariant
abbrev pub IsValidAt : List Bytes → ℕ → Type 0
IsValidAt keys number = (t : State) × IsValid t × HasNumber keys number t

-- a step of a process in state `number` was taken from the cache, or is not in the cache
abbrev pub MayFollow : Observer Bytes → ℕ → List Bytes → List Bytes → ℕ → ℕ → Option Followed → Type 0
MayFollow observe limit old new number pid None = new ≡ old
MayFollow observe limit old new number pid (Some f) = (t : State) → IsValid t → HasNumber old number t → IsFollowed observe limit old new t pid (texts_in f.texts.value.items) f.found
