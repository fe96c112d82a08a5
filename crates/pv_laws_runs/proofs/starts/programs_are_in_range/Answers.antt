use Rattle.pv_laws_runs.proofs.ProgramRanges.{program_of-encodes}
use Rattle.pv_laws_runs.proofs.starts.programs_are_in_range.Goals as goal

pub returns : goal.returns
returns c = program_of-encodes
