use Rattle.pv_laws_schedules.proofs.ReducedTextRuns.{texts-happen}
use Rattle.pv_laws_schedules.proofs.reduced_runs.reduced_texts_happen.Goals as goal

pub returns : goal.returns
returns c = texts-happen
