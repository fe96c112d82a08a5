use Rattle.pv_laws_access.proofs.EndExampleRuns.{ends-happen}
use Rattle.pv_laws_access.proofs.end_examples.ends_happen.Goals as goal

pub returns : goal.returns
returns c = ends-happen
