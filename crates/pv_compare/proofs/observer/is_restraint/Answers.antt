use Rattle.pv_compare.proofs.NextSteps.{no-call}
use Rattle.pv_model.specs.Machine.{process_at}
use Rattle.pv_compare.proofs.observer.is_restraint.Goals as goal

pub returns-in-None : goal.returns-in-None
returns-in-None c = no-call (process_at c.args.session.now c.args.pid) c.in-None.ensures
