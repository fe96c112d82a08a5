use Rattle.std.proofs.Common.{◌∙◌, sym}
use Rattle.pv_model.specs.Machine.{call_of}
use Rattle.pv_needs.proofs.NeededPromises.{needed_all, needed_either}
use Rattle.pv_needs.proofs.asking.promises_needed.Goals as goal

pub returns-then-needs_either : goal.returns-then-needs_either
returns-then-needs_either c = sym (needed_either (call_of c.args.call) (sym c.needs_either.ensures ∙ c.if-needs_either.true))

pub returns-else-needs_either : goal.returns-else-needs_either
returns-else-needs_either c = c.promises_of.ensures ∙ sym (needed_all (call_of c.args.call) (sym c.needs_either.ensures ∙ c.if-needs_either.false))
