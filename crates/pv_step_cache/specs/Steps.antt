-- Cached transitions.
use Rattle.std.specs.Prelude.{◌≡◌, ℕ, ◌⊎◌, List, [], ◌∷◌, ◌++◌, map, slice_get, Some}
use Rattle.std.specs.Global.{Vec}
use Rattle.pv_model.specs.Machine.{Bytes}
use Rattle.pv_step_cache.specs.declared.cells.Cell.{Cell}
use Rattle.pv_step_cache.specs.declared.steps.CachedStep.{CachedStep}
use Rattle.pv_step_cache.specs.Edits.{edited, step_key, AreCellEdits}

-- the texts of a list of the code
abbrev pub texts_in : List (Vec ℕ) → List Bytes
texts_in texts = map (λ t. t.items) texts

-- the texts of a transition
abbrev pub texts_of : CachedStep → List Bytes
texts_of step = texts_in step.texts.value.items

-- one of the transitions has this key
pub record IsCachedStep (steps : List CachedStep) (key : Bytes) (step : CachedStep) : Type 0 where
  pub number : ℕ
  pub at : slice_get steps number ≡ Some step
  pub key_is : step.key.items ≡ key

-- the texts and the cells are those of a transition with this key
pub record WasCached (steps : List CachedStep) (key : Bytes) (cells : List Cell) (texts : List Bytes) (after : List Cell) : Type 0 where
  pub step : CachedStep
  pub found : IsCachedStep steps key step
  pub texts_are : texts ≡ texts_of step
  pub after_is : after ≡ map (edited cells) step.edits.items

-- a transition is the step of a process between these cells
pub record IsOfCells (step : CachedStep) (pid : ℕ) (before after : List Cell) (texts : List Bytes) : Type 0 where
  pub key_is : step.key.items ≡ step_key pid before
  pub texts_are : texts_of step ≡ texts
  pub edits_are : AreCellEdits pid before after step.edits.items

-- the cache is unchanged, or has one more transition
abbrev pub Adds : List CachedStep → List CachedStep → ℕ → List Cell → List Cell → List Bytes → Type 0
Adds old new pid before after texts = (new ≡ old) ⊎ ((step : CachedStep) × (new ≡ old ++ step ∷ []) × IsOfCells step pid before after texts)
