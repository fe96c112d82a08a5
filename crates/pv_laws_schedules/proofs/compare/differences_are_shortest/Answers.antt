use Rattle.pv_laws_schedules.proofs.PairSearch.{shortest}
use Rattle.pv_laws_schedules.proofs.compare.differences_are_shortest.Goals as goal

pub returns : goal.returns
returns c = λ program_of limit s t m pairs it. shortest program_of limit s t it m pairs
