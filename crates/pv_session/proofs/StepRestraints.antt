-- The effect of a step on restraints, by its outcome.
use Rattle.std.proofs.Common.{◌≡◌, ℕ, Result, Ok, Err}
use Rattle.std.specs.Prelude.{IfOk, OnOk}
use Rattle.pv_laws_states.specs.States.{IsValid}
use Rattle.pv_model.specs.declared.kernel_fault.StepFault.{StepFault}
use Rattle.pv_model.specs.declared.outcome.Outcome.{Outcome}
use Rattle.pv_model.specs.Machine.{program_of, State}
use Rattle.pv_calls.proofs.OfLawsAccess.ProcessesAfterEnds.{valid-in_order}
use Rattle.pv_calls.proofs.OfLawsAccess.ProgramImages.{child-same, grows-never, others-keep}
use Rattle.pv_session.specs.Restraints.{ChildBeginsWithSameRights, GainsNothing, LeavesOthers}
use Rattle.pv_session.specs.Running.{stepped}

module _ (s : State) (pid : ℕ) (whole : IsValid s) where
  gains-nothing : GainsNothing s pid (stepped s pid).outcome (stepped s pid).after
  gains-nothing p q at stays same_image = grows-never program_of s pid p q (valid-in_order s whole) at stays same_image

  child-alike : ChildBeginsWithSameRights s pid (stepped s pid).outcome (stepped s pid).after
  child-alike p n at forks answered = child-same program_of s pid n p at forks answered

  leaves-others : LeavesOthers s pid (stepped s pid).after
  leaves-others other p another at = others-keep program_of s pid other p (valid-in_order s whole) another at

  module _ (after : State) where
    pub own : (r : Result Outcome StepFault) → OnOk r (after ≡ (stepped s pid).after) → IfOk r (λ outcome. outcome ≡ (stepped s pid).outcome)
        → IfOk r (λ outcome. GainsNothing s pid outcome after)
    own (Ok outcome) moved answered = rw (moved, answered) gains-nothing
    own (Err fault) moved answered = tt

    pub child : (r : Result Outcome StepFault) → OnOk r (after ≡ (stepped s pid).after) → IfOk r (λ outcome. outcome ≡ (stepped s pid).outcome)
        → IfOk r (λ outcome. ChildBeginsWithSameRights s pid outcome after)
    child (Ok outcome) moved answered = rw (moved, answered) child-alike
    child (Err fault) moved answered = tt

    pub others : (r : Result Outcome StepFault) → OnOk r (after ≡ (stepped s pid).after) → OnOk r (LeavesOthers s pid after)
    others (Ok outcome) moved = rw moved leaves-others
    others (Err fault) moved = tt
