use Rattle.pv_script.specs.contracts.context.Context.{the_view}
use Rattle.pv_script.proofs.context.Context.advance.Goals as goal

pub returns : goal.returns
returns c = rw (← c.self.view_is) (c.line_after-self-inside.ensures (the_view c.self.inside))
