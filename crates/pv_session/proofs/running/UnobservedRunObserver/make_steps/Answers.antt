use Rattle.pv_session.proofs.TracedRuns.{passes-first}
use Rattle.pv_session.proofs.running.UnobservedRunObserver.make_steps.Goals as goal

pub returns-clause-made : goal.returns-clause-made
returns-clause-made g c =
    passes-first c.pass.result c.args.pid c.args.session.now c.step.new.self c.pass.new.self c.args.self.now c.args._out.now c.in_ok-step.ensures.after c.pass.ensures.after
