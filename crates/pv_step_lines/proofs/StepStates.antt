-- A step, as in the definitions: the state after it.
use Rattle.std.proofs.Common.{◌≡◌, ◌∙◌, ℕ, ap, sym, subst}
use Rattle.pv_model.specs.Machine.{Answered, program_of, State, Stepped, step, step_by}
use Rattle.pv_laws_states.specs.States.{IsValid}
use Rattle.pv_laws_states.proofs.ValidBySteps.{step-keeps_valid}
use Rattle.pv_session.proofs.OfLawsAccess.ProcessesAfterEnds.{step-is, step-gone}
use Rattle.pv_session.proofs.OfLawsRuns.ProgramRanges.{program_of-encodes}
use Rattle.pv_step_lines.specs.declared.making.MadeCall.{MadeCall}
use Rattle.pv_step_lines.specs.declared.making.MadeStep.{MadeStep}
use Rattle.pv_step_lines.specs.declared.making.MadeStep.TheVariants.{Gone, Register, Call as CallMade}
use Rattle.pv_step_lines.specs.Made.{IsMadeCall, IsMade}

pub left-by : (s : State) (pid : ℕ) (made : MadeStep) (after : State) → IsMade s pid made after → after ≡ (step program_of s pid).after
left-by s pid Gone after is = is.1 ∙ sym (ap (λ (w : Stepped). w.after) (step-gone program_of s pid is.0))
left-by s pid (Register n) after is = is.left ∙ sym (ap (λ (w : Stepped). w.after) (step-is program_of s pid is.me is.lives ∙ ap (step_by program_of s pid is.me) is.comes))
left-by s pid (CallMade m) after is =
    sym (ap (λ (w : Stepped). w.after) (step-is program_of s pid is.me is.lives ∙ ap (step_by program_of s pid is.me) is.comes) ∙ ap (λ (a : Answered). a.after) is.answered)

-- the state after a call is valid
pub whole-made : (s : State) (pid : ℕ) (m : MadeCall) (after : State) → IsValid s → IsMadeCall s pid m after → IsValid after
whole-made s pid m after whole is = subst IsValid (sym (left-by s pid (CallMade m) after is)) (step-keeps_valid program_of program_of-encodes s pid whole)
