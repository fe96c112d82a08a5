use Rattle.pv_laws_schedules.proofs.UnreadFiles.{unread-read_by_none}
use Rattle.pv_laws_schedules.proofs.access.unread_files_are_read_by_none.Goals as goal

pub returns : goal.returns
returns c = unread-read_by_none
