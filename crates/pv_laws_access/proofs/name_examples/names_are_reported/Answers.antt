use Rattle.pv_laws_access.proofs.NamesExampleRuns.{names-reported}
use Rattle.pv_laws_access.proofs.name_examples.names_are_reported.Goals as goal

pub returns : goal.returns
returns c = names-reported
