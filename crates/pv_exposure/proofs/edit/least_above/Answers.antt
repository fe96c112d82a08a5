use Rattle.std.proofs.Common.{◌∙◌}
use Rattle.pv_exposure.proofs.EditReasons.{least-above}
use Rattle.pv_exposure.proofs.edit.least_above.Goals as goal

pub returns : goal.returns
returns c = λ p table at has moves. c.first_above.ensures ∙ least-above c.args.parts.now p c.args.node table has moves c.leaks-whys.result (c.leaks-whys.ensures p at)
