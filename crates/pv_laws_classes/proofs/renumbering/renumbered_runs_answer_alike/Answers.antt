use Rattle.pv_laws_classes.proofs.RenumberedSteps.{renumbered-runs}
use Rattle.pv_laws_classes.proofs.renumbering.renumbered_runs_answer_alike.Goals as goal

pub returns : goal.returns
returns c = renumbered-runs
