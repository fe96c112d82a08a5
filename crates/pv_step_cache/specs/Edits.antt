-- The groups of a state after a step, as edits of those before it.
use Rattle.std.specs.Prelude.{◌≡◌, ◌≢◌, ℕ, Bool, true, not, ◌&&◌, ◌⊎◌, if◌then◌else◌, ◌==◌, List, [], ◌∷◌, get_or, map, slice_get, Some}
use Rattle.pv_model.specs.Machine.{Bytes}
use Rattle.pv_state_encoding.specs.Packed.{packed_all}
use Rattle.pv_state_encoding.specs.Encoded.{OwnedGroup}
use Rattle.pv_step_cache.specs.declared.cells.Cell.{Cell}
use Rattle.pv_step_cache.specs.declared.cells.Edit.{Edit}
use Rattle.pv_step_cache.specs.declared.cells.Edit.TheVariants.{Keep, Put}

-- ---- cells

abbrev pub no_cell : Cell
no_cell = record { number = 0; owner = 0; outside = 0 }

-- the cell of a group
abbrev pub cell_of : (List Bytes → ℕ) → OwnedGroup → Cell
cell_of number c = record { number = number c.group; owner = c.owner; outside = number c.outside }

-- the number of the part of a cell on which a step of a process depends
abbrev pub seen_number : ℕ → Cell → ℕ
seen_number pid c = if c.owner == pid then c.number else c.outside

abbrev pub number_of_cell : Cell → ℕ
number_of_cell c = c.number

-- a live process owns the cell
abbrev pub is_owned : Cell → Bool
is_owned c = not (c.owner == 0)

-- the live processes
abbrev pub owners : List Cell → List ℕ
owners [] = []
owners (c ∷ cs) = if c.owner == 0 then owners cs else c.owner ∷ owners cs

-- the key of a step: the bytes that encode the part of the state on which it depends
abbrev pub step_key : ℕ → List Cell → Bytes
step_key pid cells = packed_all (pid ∷ map (seen_number pid) cells)

-- ---- edits

abbrev pub edited : List Cell → Edit → Cell
edited cells (Keep place) = get_or cells place no_cell
edited cells (Put cell) = cell

-- a cell has the same group and owner as another
abbrev pub appears_as : Cell → Cell → Bool
appears_as c there = (there.number == c.number) && (there.owner == c.owner)

-- the cell of another live process was at this index
pub record AppearedAt (pid : ℕ) (before : List Cell) (place : ℕ) (c : Cell) : Type 0 where
  pub there : Cell
  pub at : slice_get before place ≡ Some there
  pub appears : appears_as c there ≡ true
  pub live : c.owner ≢ 0
  pub other : c.owner ≢ pid

module _ (pid : ℕ) (before : List Cell) where
  -- an edit yields a cell after a step of a process: the cell of another live process was there before the step, any
  -- other cell is new
  abbrev pub IsCellEdit : Cell → Edit → Type 0
  IsCellEdit c (Keep place) = AppearedAt pid before place c
  IsCellEdit c (Put cell) = (c ≡ cell) × ((c.owner ≡ 0) ⊎ (c.owner ≡ pid))

  abbrev pub AreCellEdits : List Cell → List Edit → Type 0
  AreCellEdits [] [] = Unit {0}
  AreCellEdits [] (e ∷ es) = ⊥
  AreCellEdits (c ∷ cs) [] = ⊥
  AreCellEdits (c ∷ cs) (e ∷ es) = IsCellEdit c e × AreCellEdits cs es

-- a group is at this index, and another live process owns it
pub record AppearsAt (pid : ℕ) (before : List OwnedGroup) (place : ℕ) (c : OwnedGroup) : Type 0 where
  pub there : OwnedGroup
  pub at : slice_get before place ≡ Some there
  pub group : there.group ≡ c.group
  pub owner : there.owner ≡ c.owner
  pub live : c.owner ≢ 0
  pub other : c.owner ≢ pid

module _ (number : List Bytes → ℕ) (pid : ℕ) (before : List OwnedGroup) where
  -- an edit yields a group after a step of a process: the group of another live process was there before the step, any
  -- other group is new
  abbrev pub IsEdit : OwnedGroup → Edit → Type 0
  IsEdit c (Keep place) = AppearsAt pid before place c
  IsEdit c (Put cell) = (cell_of number c ≡ cell) × ((c.owner ≡ 0) ⊎ (c.owner ≡ pid))

  abbrev pub AreEdits : List OwnedGroup → List Edit → Type 0
  AreEdits [] [] = Unit {0}
  AreEdits [] (e ∷ es) = ⊥
  AreEdits (c ∷ cs) [] = ⊥
  AreEdits (c ∷ cs) (e ∷ es) = IsEdit c e × AreEdits cs es
