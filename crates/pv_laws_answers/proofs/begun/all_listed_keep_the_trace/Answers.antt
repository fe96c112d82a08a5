use Rattle.pv_laws_answers.proofs.OtherPromises.{listed-keep}
use Rattle.pv_laws_answers.proofs.begun.all_listed_keep_the_trace.Goals as goal

pub returns : goal.returns
returns c = listed-keep
