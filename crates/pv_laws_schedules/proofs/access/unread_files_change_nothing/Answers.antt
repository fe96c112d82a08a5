use Rattle.pv_laws_schedules.proofs.UnreadFiles.{unread-change_nothing}
use Rattle.pv_laws_schedules.proofs.access.unread_files_change_nothing.Goals as goal

pub returns : goal.returns
returns c = unread-change_nothing
