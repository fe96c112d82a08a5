use Rattle.pv_laws_answers.proofs.UnreadRuns.{unread-reported}
use Rattle.pv_laws_answers.proofs.unread.unread_is_not_reported.Goals as goal

pub returns : goal.returns
returns c = unread-reported
