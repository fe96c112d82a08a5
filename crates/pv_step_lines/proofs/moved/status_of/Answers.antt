use Rattle.std.proofs.Common.{◌∙◌, ap, sym}
use Rattle.pv_model.specs.Machine.{number_of}
use Rattle.pv_step_lines.proofs.StatusBytes.{last-four}
use Rattle.pv_step_lines.proofs.moved.status_of.Goals as goal

pub returns-clause-size : goal.returns-clause-size
returns-clause-size c = c.number_of_four.ensures ∙ sym (ap number_of (last-four c.args.bytes.now c.requires))
