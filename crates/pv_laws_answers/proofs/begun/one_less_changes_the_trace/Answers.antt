use Rattle.pv_laws_answers.proofs.OtherPromises.{less-changes}
use Rattle.pv_laws_answers.proofs.begun.one_less_changes_the_trace.Goals as goal

pub returns : goal.returns
returns c = less-changes
