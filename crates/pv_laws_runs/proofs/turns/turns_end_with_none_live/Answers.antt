use Rattle.pv_laws_runs.proofs.ScheduleEnds.{turns-dead}
use Rattle.pv_laws_runs.proofs.turns.turns_end_with_none_live.Goals as goal

pub returns : goal.returns
returns c = turns-dead
