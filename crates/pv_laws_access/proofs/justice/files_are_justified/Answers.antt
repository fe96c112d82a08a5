use Rattle.pv_laws_access.proofs.JustifiedChanges.{files-justified}
use Rattle.pv_laws_access.proofs.justice.files_are_justified.Goals as goal

pub returns : goal.returns
returns c = files-justified
