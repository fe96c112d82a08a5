use Rattle.pv_laws_answers.proofs.NeedCounts.{promise-counted}
use Rattle.pv_laws_answers.proofs.counts.promises_are_counted.Goals as goal

pub returns : goal.returns
returns c = promise-counted
