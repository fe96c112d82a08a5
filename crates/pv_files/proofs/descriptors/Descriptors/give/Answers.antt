use Rattle.std.proofs.Common.{sym, ap, ◌∙◌}
use Rattle.pv_model.specs.Machine.{with_number, least_free, Descriptor}
use Rattle.pv_files.specs.DescriptorSlots.{slot_descriptor}
use Rattle.pv_files.proofs.ViewedMaps.{least_free-seen, seen-set_some}
use Rattle.pv_files.proofs.descriptors.Descriptors.give.Goals as goal

pub returns-in_default-clause-full : goal.returns-in_default-clause-full
returns-in_default-clause-full c =
    ap (λ ds. least_free ds) (sym c.self.view_is) ∙ least_free-seen slot_descriptor c.self.inside.slots ∙ c.in_default.ensures ∙ c.self.invariant

pub returns-clause-number : goal.returns-clause-number
returns-clause-number c =
    sym (ap (λ ds. least_free ds) (sym c.self.view_is) ∙ least_free-seen slot_descriptor c.self.inside.slots ∙ c.in-Some.ensures.0)

pub returns-clause-given : goal.returns-clause-given
returns-clause-given c =
    let given : Descriptor = record { file = c.args.file; close_on_exec = c.args.close_on_exec } in
    seen-set_some slot_descriptor c.self.inside.slots c.in-Some.d _ c.in-Some.ensures.1 ∙ ap (λ ds. with_number ds c.in-Some.d given) c.self.view_is
