-- The process that must make the next step.
use Rattle.std.proofs.Common.{◌≡◌, ◌∙◌, ap, sym, ℕ, if◌then◌else◌, Option}
use Rattle.pv_state_encoding.proofs.OfAnswers.InstructionWords.{register-next}
use Rattle.pv_laws_classes.specs.Reduced.{bound_by}
use Rattle.pv_laws_classes.specs.Together.{is_next_inside, is_inside_next}
use Rattle.pv_model.specs.Machine.{Process, State, process_at}
use Rattle.pv_state_encoding.specs.OfProcs.Turns.{RegisterNext}

-- a process whose next step is on registers must make it
pub bound-register : (s : State) (pid : ℕ) (lives : Option Process) → lives ≡ process_at s pid → RegisterNext lives → pid ≡ bound_by s pid
bound-register s pid lives is at =
    let it = register-next lives at in
    sym (ap (λ b. if b then pid else 0) (ap is_inside_next (sym is ∙ it.1) ∙ ap is_next_inside it.3))
