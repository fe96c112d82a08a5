use Rattle.pv_laws_schedules.proofs.ReducedAccesses.{unread-change_nothing_reduced}
use Rattle.pv_laws_schedules.proofs.reduced_access.unread_files_change_nothing_reduced.Goals as goal

pub returns : goal.returns
returns c = unread-change_nothing_reduced
