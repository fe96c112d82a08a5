use Rattle.pv_laws_access.proofs.JustifiedChanges.{entries-justified}
use Rattle.pv_laws_access.proofs.justice.entries_are_justified.Goals as goal

pub returns : goal.returns
returns c = entries-justified
