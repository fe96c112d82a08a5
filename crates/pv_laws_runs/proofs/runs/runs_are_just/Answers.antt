use Rattle.pv_model.specs.Machine.{program_of}
use Rattle.pv_laws_answers.proofs.OfLawsAccess.JustifiedReads.{all-justified}
use Rattle.pv_laws_runs.proofs.StartingStates.{reached-valid}
use Rattle.pv_laws_runs.proofs.runs.runs_are_just.Goals as goal

pub returns : goal.returns
returns c = λ bytes s pid is. all-justified program_of s pid (reached-valid bytes s is)
