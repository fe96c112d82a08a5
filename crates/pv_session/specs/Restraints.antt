-- The effect of a step on restraints: pledge(2), unveil(2).
use Rattle.std.specs.Prelude.{◌≡◌, ◌≢◌, ℕ, IsFalse, Some}
use Rattle.pv_model.specs.declared.call.Call.TheVariants.{Fork}
use Rattle.pv_model.specs.declared.outcome.Outcome.{Outcome}
use Rattle.pv_model.specs.declared.outcome.Outcome.TheVariants.{Value}
use Rattle.pv_model.specs.Machine.{calls_for, next, Process, State, process_at}
use Rattle.pv_calls.specs.OfLawsAccess.Growth.{HasSameRights, IsUnchangedExceptParent, HasNoMoreRights, begins_image}

module _ (before : State) (pid : ℕ) (outcome : Outcome) (after : State) where
  -- within one program image, a process that stays live and whose step is not a successful execve gains no right
  abbrev pub GainsNothing : Type 0
  GainsNothing =
      (p q : Process) → process_at before pid ≡ Some p → process_at after pid ≡ Some q
      → IsFalse (begins_image (next p) outcome) → HasNoMoreRights p q

  -- a child starts with the restraints and descriptors of its parent
  abbrev pub ChildBeginsWithSameRights : Type 0
  ChildBeginsWithSameRights =
      (p : Process) (n : ℕ) → process_at before pid ≡ Some p → next p ≡ calls_for Fork → outcome ≡ Value n
      → (child : Process) × (process_at after n ≡ Some child) × HasSameRights p child

-- the other processes stay live and unchanged, except possibly for their parent
abbrev pub LeavesOthers : State → ℕ → State → Type 0
LeavesOthers before pid after =
    (other : ℕ) (p : Process) → other ≢ pid → process_at before other ≡ Some p
    → (q : Process) × (process_at after other ≡ Some q) × IsUnchangedExceptParent p q
