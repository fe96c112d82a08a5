use Rattle.pv_laws_access.proofs.JustifiedReads.{reads-justified}
use Rattle.pv_laws_access.proofs.justice.reads_are_justified.Goals as goal

pub returns : goal.returns
returns c = reads-justified
