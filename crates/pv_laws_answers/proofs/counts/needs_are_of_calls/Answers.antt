use Rattle.pv_laws_answers.proofs.NeedCounts.{needs-of_calls}
use Rattle.pv_laws_answers.proofs.counts.needs_are_of_calls.Goals as goal

pub returns : goal.returns
returns c = needs-of_calls
