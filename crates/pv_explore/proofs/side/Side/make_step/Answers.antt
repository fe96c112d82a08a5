use Rattle.std.proofs.Common.{◌∙◌, ap, refl, subst}
use Rattle.pv_explore.specs.Plan.{state_key}
use Rattle.pv_explore.specs.Sides.{SideStates}
use Rattle.pv_explore.proofs.SideStates.{numbered-by}
use Rattle.pv_explore.specs.VisitedStates.{IsFoundIn}
use Rattle.pv_model.specs.Machine.{State}
use Rattle.pv_step_lines.specs.OfSession.Running.{stepped}
use Rattle.pv_explore.proofs.side.Side.make_step.Goals as goal

pub returns-clause-number : goal.returns-clause-number
returns-clause-number g c =
    let u = (stepped c.args.from c.args.pid).after in
    let found = subst (λ (s : State). IsFoundIn c.args.limit c.observe.new.self c.arrive.new.self (state_key s) c.in_ok-found.found) c.in_ok-position.ensures.after c.in_ok-found.ensures in
    numbered-by c.args.limit c.observe.new.self c.args.self.now.keys c.arrive.new.self u u c.in_ok-found.found c.len-before.result c.number_of-number.result
    found (c.observe.ensures.unchanged ∙ ap (λ (x : SideStates). x.keys) c.self.view_is) refl c.len-before.ensures c.number_of-number.ensures
