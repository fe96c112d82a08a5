use Rattle.std.proofs.Common.{◌∙◌}
use Rattle.pv_explore.proofs.LastProcessNumbers.{gave-known}
use Rattle.pv_explore.proofs.position.Position.observe.Goals as goal

pub last_number-last-requires-clause-gave : goal.last_number-last-requires-clause-gave
last_number-last-requires-clause-gave g c = gave-known c.self.inside.session c.parts-2.result.now c.args.pid c.self.inside.last c.self.invariant (c.parts-2.ensures.value ∙ c.in_ok-texts.ensures.after)
