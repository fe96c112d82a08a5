use Rattle.pv_laws_access.proofs.RefusalExampleRuns.{refusals-happen}
use Rattle.pv_laws_access.proofs.refusal_examples.refusals_happen.Goals as goal

pub returns : goal.returns
returns c = refusals-happen
