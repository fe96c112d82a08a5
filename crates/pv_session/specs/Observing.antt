-- A run with an observer, as a sequence of steps.
use Rattle.std.specs.Prelude.{◌≡◌, ◌⊎◌, ℕ, List, [], ◌∷◌}
use Rattle.pv_model.specs.Machine.{State}

-- the state of a machine, the observer of its run, and the output of the observer
pub record Observed (O W : Type 0) : Type 0 where
  pub state : State
  pub observer : O
  pub out : W

abbrev pub observed : {O W : Type 0} → State → O → W → Observed O W
observed state observer out = record { state = state; observer = observer; out = out }

module _ {O W : Type 0} (makes : ℕ → Observed O W → Observed O W → Type 0) where
  -- steps of these processes were made, one after another
  abbrev pub AreMade : List ℕ → Observed O W → Observed O W → Type 0
  AreMade [] x z = z ≡ x
  AreMade (pid ∷ pids) x z = (y : Observed O W) × makes pid x y × AreMade pids y z

  -- of steps of these processes some were made, and the next one stopped the run
  abbrev pub AreStopped : (ℕ → Observed O W → Observed O W → Type 0) → List ℕ → Observed O W → Observed O W → Type 0
  AreStopped stops [] x z = ⊥
  AreStopped stops (pid ∷ pids) x z = stops pid x z ⊎ ((y : Observed O W) × makes pid x y × AreStopped stops pids y z)
