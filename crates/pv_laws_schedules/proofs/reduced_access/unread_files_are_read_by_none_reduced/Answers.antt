use Rattle.pv_laws_schedules.proofs.ReducedAccesses.{unread-read_by_none_reduced}
use Rattle.pv_laws_schedules.proofs.reduced_access.unread_files_are_read_by_none_reduced.Goals as goal

pub returns : goal.returns
returns c = unread-read_by_none_reduced
