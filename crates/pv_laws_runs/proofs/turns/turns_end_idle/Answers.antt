use Rattle.pv_laws_runs.proofs.ScheduleEnds.{turns-idle, turns-within}
use Rattle.pv_laws_runs.proofs.turns.turns_end_idle.Goals as goal

pub returns : goal.returns
returns c = record { within = turns-within; idle = turns-idle }
