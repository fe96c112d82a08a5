use Rattle.pv_model.specs.Machine.{program_of}
use Rattle.pv_laws_answers.proofs.OfLawsAccess.SealedRuns.{frozen-for_ever}
use Rattle.pv_laws_runs.proofs.ProgramRanges.{program_of-encodes}
use Rattle.pv_laws_runs.proofs.StartingStates.{reached-valid}
use Rattle.pv_laws_runs.proofs.runs.frozen_is_left.Goals as goal

pub returns : goal.returns
returns c = λ bytes s pids f is. frozen-for_ever program_of program_of-encodes s pids f (reached-valid bytes s is)
