use Rattle.std.proofs.Common.{sym}
use Rattle.pv_reduced.specs.OfSession.Running.{stepped}
use Rattle.pv_exposure.proofs.FilesOfReads.{read-none}
use Rattle.pv_exposure.proofs.reads.read_by_step.Goals as goal

pub returns-in-None : goal.returns-in-None
returns-in-None c = sym (read-none c.args.session.now c.args.pid (stepped c.args.session.now c.args.pid) c.in-None.ensures)
