-- The cells of the state after a step, from those of the state before it.
use Rattle.std.specs.Prelude.{◌≡◌, ℕ, Bool, if◌then◌else◌, ◌==◌, List, slice_get, Some}
use Rattle.pv_model.specs.Machine.{Bytes, State, process_at}
use Rattle.pv_explore.specs.Observing.{stays_inside}
use Rattle.pv_explore.specs.VisitedStates.{AreCellsOf}
use Rattle.pv_laws_states.specs.States.{IsValid}
use Rattle.pv_step_lines.specs.OfSession.Running.{stepped}
use Rattle.pv_step_cache.specs.declared.cells.Cell.{Cell}

-- a cell, or another one in its place if this process owns it
abbrev pub own_or : ℕ → Cell → Cell → Cell
own_or pid own c = if c.owner == pid then own else c

-- the cells are those of a state, and a step of a process leads from it to state `after`
pub record LeadTo (parts groups : List Bytes) (cells : List Cell) (pid : ℕ) (inside : Bool) (after : State) : Type 0 where
  pub state : State
  pub whole : IsValid state
  pub cells_are : AreCellsOf parts groups state cells
  pub after_is : after ≡ (stepped state pid).after
  pub inside_is : inside ≡ stays_inside (process_at state pid)

-- the cell of a live process
pub record IsCellOf (cells : List Cell) (pid : ℕ) (cell : Cell) : Type 0 where
  pub place : ℕ
  pub at : slice_get cells place ≡ Some cell
  pub owner : cell.owner ≡ pid
