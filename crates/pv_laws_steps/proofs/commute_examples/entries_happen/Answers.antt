use Rattle.pv_laws_steps.proofs.EntryExamples.{entries-happen}
use Rattle.pv_laws_steps.proofs.commute_examples.entries_happen.Goals as goal

pub returns : goal.returns
returns c = entries-happen
