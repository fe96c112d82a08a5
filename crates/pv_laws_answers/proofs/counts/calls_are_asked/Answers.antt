use Rattle.pv_laws_answers.proofs.NeedCounts.{call-asked}
use Rattle.pv_laws_answers.proofs.counts.calls_are_asked.Goals as goal

pub returns : goal.returns
returns c = call-asked
