use Rattle.std.proofs.Common.{◌∙◌}
use Rattle.pv_explore.proofs.LastProcessNumbers.{gave-known}
use Rattle.pv_explore.proofs.position.Position.step.Goals as goal

pub last_number-self-inside-requires-clause-gave : goal.last_number-self-inside-requires-clause-gave
last_number-self-inside-requires-clause-gave c = gave-known c.self.inside.session c.parts-2.result.now c.args.pid c.self.inside.last c.self.invariant (c.parts-2.ensures.value ∙ c.in_ok-step.ensures.after)
