use Rattle.pv_model.specs.Machine.{program_of}
use Rattle.pv_laws_answers.proofs.OfLawsAccess.ProcessesAfterEnds.{valid-in_order}
use Rattle.pv_laws_answers.proofs.OfLawsAccess.ProgramImages.{others-keep}
use Rattle.pv_laws_runs.proofs.StartingStates.{reached-valid}
use Rattle.pv_laws_runs.proofs.runs.runs_keep_others.Goals as goal

pub returns : goal.returns
returns c = λ bytes s pid other p is. others-keep program_of s pid other p (valid-in_order s (reached-valid bytes s is))
