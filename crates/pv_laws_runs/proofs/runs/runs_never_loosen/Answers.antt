use Rattle.pv_model.specs.Machine.{program_of}
use Rattle.pv_laws_answers.proofs.OfLawsAccess.ProgramImages.{runs-without}
use Rattle.pv_laws_runs.proofs.ProgramRanges.{program_of-encodes}
use Rattle.pv_laws_runs.proofs.StartingStates.{reached-valid}
use Rattle.pv_laws_runs.proofs.runs.runs_never_loosen.Goals as goal

pub returns : goal.returns
returns c = λ bytes s pid pids p q is. runs-without program_of program_of-encodes s pid pids p q (reached-valid bytes s is)
