use Rattle.std.proofs.Common.{refl}
use Rattle.pv_needs.specs.declared.needs.DemandRecorder.{DemandRecorder}
use Rattle.pv_session.specs.Observing.{observed}
use Rattle.pv_needs.proofs.needs.DemandRecorderRunObserver.make_steps.Goals as goal

pub returns-clause-made : goal.returns-clause-made
returns-clause-made g c =
    let ok = c.in_ok-ask_step.ensures in
    let left : DemandRecorder = record { recorded = c.ask_step.new.recorded; texts = c.ask_step.new.texts; targets = c.ask_step.new.targets; granted = c.args.self.now.granted } in
    (observed c.ask_step.new.session left c.args._out.now, record { after = ok.after; more = ok.recorded; same = refl }, refl)
