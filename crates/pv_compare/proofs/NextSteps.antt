-- The next step of a process, if it is not a call.
use Rattle.std.proofs.Common.{◌≡◌, ◌∙◌, inl, inr, false, ap, sym, Option}
use Rattle.pv_explore.proofs.OfAnswers.InstructionWords.{register-next}
use Rattle.pv_model.specs.Answers.Compare.{is_restraint, restrains}
use Rattle.pv_model.specs.Machine.{Process}
use Rattle.pv_procs.specs.Turns.{NoCallNext}

-- an instruction on registers is not a call, and a process that is not live makes none
pub no-call : (lives : Option Process) → NoCallNext lives → false ≡ is_restraint lives
no-call lives (inl gone) = sym (ap is_restraint gone)
no-call lives (inr at) = let it = register-next lives at in sym (ap is_restraint it.1 ∙ ap restrains it.3)
