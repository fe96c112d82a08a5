use Rattle.pv_laws_steps.proofs.CutSteps.{cuts-commute}
use Rattle.pv_laws_steps.proofs.growing.cuts_commute.Goals as goal

pub returns : goal.returns
returns c = cuts-commute
