use Rattle.std.proofs.Common.{is_some, ap, sym, ◌∙◌}
use Rattle.pv_namei.proofs.PathComponents.{components_empty}
use Rattle.pv_namei.proofs.component.has_no_component.Goals as goal

pub returns : goal.returns
returns c = components_empty c.args.path.now c.is_none.result (ap is_some (sym c.first_other.ensures) ∙ c.is_none.ensures)
