use Rattle.pv_laws_steps.proofs.DirectorySteps.{directories-commute}
use Rattle.pv_laws_steps.proofs.holding.directory_steps_commute.Goals as goal

pub returns : goal.returns
returns c = directories-commute
