use Rattle.pv_laws_answers.proofs.ExampleRuns.{unread-happens}
use Rattle.pv_laws_answers.proofs.search_examples.unread_happens.Goals as goal

pub returns : goal.returns
returns c = unread-happens
