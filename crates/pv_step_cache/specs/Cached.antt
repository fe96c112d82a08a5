-- The cells of a state, and cached transitions.
use Rattle.std.specs.Prelude.{◌≡◌, ℕ, List, map}
use Rattle.std.specs.List.{AllByRecursion}
use Rattle.pv_model.specs.Machine.{Observer, Bytes, program_of, State, step}
use Rattle.pv_laws_states.specs.States.{IsValid}
use Rattle.pv_laws_steps.specs.Seen.{seen}
use Rattle.pv_state_encoding.specs.Encoded.{OwnedGroup, encoded}
use Rattle.pv_step_cache.specs.declared.cells.Cell.{Cell}
use Rattle.pv_step_cache.specs.declared.cells.Edit.{Edit}
use Rattle.pv_step_cache.specs.Edits.{cell_of, step_key, AreEdits}

-- the texts observed of a step depend only on the part of the state on which the step depends
abbrev pub DependsOnSeen : Observer Bytes → Type 0
DependsOnSeen observe =
    (s t : State) (pid : ℕ) → IsValid s → IsValid t → seen pid s ≡ seen pid t → observe s pid (step program_of s pid) ≡ observe t pid (step program_of t pid)

-- `number` numbers the groups, and `IsCached` holds for the stored groups
module _ (number : List Bytes → ℕ) (IsCached : List Bytes → Type 0) where
  -- a group and its outside view are stored
  abbrev pub IsCachedBoth : OwnedGroup → Type 0
  IsCachedBoth c = IsCached c.group × IsCached c.outside

  -- the cells are those of a state whose groups are stored
  pub record AreCells (s : State) (cells : List Cell) : Type 0 where
    pub are : cells ≡ map (cell_of number) (encoded s)
    pub cached : AllByRecursion IsCachedBoth (encoded s)

  -- a cached transition is right: some process made this step in some state, the key encodes the part of the state on
  -- which the step depends, and the texts observed and the edits are those of the step
  pub record IsStep (observe : Observer Bytes) (key : Bytes) (texts : List Bytes) (edits : List Edit) : Type 0 where
    pub state : State
    pub pid : ℕ
    pub whole : IsValid state
    pub before : AllByRecursion IsCachedBoth (encoded state)
    pub after : AllByRecursion IsCachedBoth (encoded (step program_of state pid).after)
    pub key_is : key ≡ step_key pid (map (cell_of number) (encoded state))
    pub texts_are : texts ≡ observe state pid (step program_of state pid)
    pub edits_are : AreEdits number pid (encoded state) (encoded (step program_of state pid).after) edits

-- different groups, one of which is stored, have different numbers
abbrev pub AreApart : (List Bytes → ℕ) → (List Bytes → Type 0) → Type 0
AreApart number IsCached = (g h : List Bytes) → IsCached h → number g ≡ number h → g ≡ h

-- more groups are stored, and stored groups keep their numbers
pub record KeepsMore (number : List Bytes → ℕ) (IsCached : List Bytes → Type 0) (number_now : List Bytes → ℕ) (IsCachedNow : List Bytes → Type 0) : Type 0 where
  pub same : (g : List Bytes) → IsCached g → number_now g ≡ number g
  pub cached : (g : List Bytes) → IsCached g → IsCachedNow g
