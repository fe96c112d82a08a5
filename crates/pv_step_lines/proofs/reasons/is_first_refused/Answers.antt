use Rattle.std.proofs.Common.{◌∙◌}
use Rattle.pv_promises.specs.Pledge.{bits_of}
use Rattle.pv_step_lines.proofs.PledgeIncreases.{first-refused}
use Rattle.pv_step_lines.proofs.reasons.is_first_refused.Goals as goal

pub returns : goal.returns
returns c = c.is_err.ensures.value ∙ first-refused c.args.pledge c.narrow.new.self (bits_of c.args.asked) c.narrow.result c.narrow.ensures.narrowed c.narrow.ensures.refused
