use Rattle.pv_laws_steps.proofs.EntrySteps.{entries-commute}
use Rattle.pv_laws_steps.proofs.entries.entries_commute.Goals as goal

pub returns : goal.returns
returns c = entries-commute
