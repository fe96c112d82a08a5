use Rattle.pv_laws_runs.proofs.ScheduleEnds.{turns-ready}
use Rattle.pv_laws_runs.proofs.turns.turns_are_ready.Goals as goal

pub returns : goal.returns
returns c = turns-ready
