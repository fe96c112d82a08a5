use Rattle.pv_laws_answers.proofs.NeedCounts.{target-counted}
use Rattle.pv_laws_answers.proofs.counts.targets_are_counted.Goals as goal

pub returns : goal.returns
returns c = target-counted
