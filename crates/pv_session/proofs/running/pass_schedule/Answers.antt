use Rattle.pv_model.specs.Machine.{steps_of}
use Rattle.pv_session.specs.Tracing.{PassesStep}
use Rattle.pv_session.proofs.ObservedRuns.{state-after}
use Rattle.pv_session.proofs.TracedRuns.{pass-stopped}
use Rattle.pv_session.proofs.running.pass_schedule.Goals as goal

pub returns-in-Ok-clause-after : goal.returns-in-Ok-clause-after
returns-in-Ok-clause-after c = state-after PassesStep (λ pid x y made. made) (steps_of c.args.schedule.now) _ _ c.in-Ok.ensures.made

pub returns-in-Err-clause-stopped : goal.returns-in-Err-clause-stopped
returns-in-Err-clause-stopped c = pass-stopped (steps_of c.args.schedule.now) _ _ c.in-Err.ensures.stopped
