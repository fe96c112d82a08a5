use Rattle.pv_model.specs.Machine.{program_of}
use Rattle.pv_laws_answers.proofs.OfLawsAccess.SealedRuns.{sealed-for_ever}
use Rattle.pv_laws_runs.proofs.ProgramRanges.{program_of-encodes}
use Rattle.pv_laws_runs.proofs.StartingStates.{reached-valid}
use Rattle.pv_laws_runs.proofs.runs.sealed_reports_nothing.Goals as goal

pub returns : goal.returns
returns c = λ bytes s pids f hidden is. sealed-for_ever program_of program_of-encodes s pids f hidden (reached-valid bytes s is)
