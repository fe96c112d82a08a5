use Rattle.std.proofs.Common.{sym, subst, refl}
use Rattle.pv_needs.specs.Asking.{IsMoreBy}
use Rattle.pv_needs.proofs.StepDemands.{asks-nothing, counts-nothing}
use Rattle.pv_needs.proofs.needs.ask_step.Goals as goal

pub returns-in_ok-step-in-None : goal.returns-in_ok-step-in-None
returns-in_ok-step-in-None c = record {
  after = c.in_ok-step-in-None.ensures.after;
  recorded =
      subst (λ o. IsMoreBy c.args.recorded.now c.args.pid o c.args.recorded.now)
      (sym (counts-nothing c.args.granted c.args.session.now c.args.pid (asks-nothing c.args.session.now c.args.pid c.in-None.ensures))) refl;
  memory = tt;
}
