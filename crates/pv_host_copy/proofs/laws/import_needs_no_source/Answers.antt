use Rattle.pv_host_copy.proofs.SourceEntries.{needs-no_source}
use Rattle.pv_host_copy.proofs.laws.import_needs_no_source.Goals as goal

pub returns : goal.returns
returns c = needs-no_source
