use Rattle.pv_laws_answers.proofs.UnreadRuns.{unread-files}
use Rattle.pv_laws_answers.proofs.unread.unread_files_are_not_reported.Goals as goal

pub returns : goal.returns
returns c = unread-files
