use Rattle.std.proofs.Common.{◌<◌, length, false, ap, ◌∙◌, arith}
use Rattle.pv_model.specs.Machine.{with_number, Descriptor}
use Rattle.pv_files.specs.DescriptorSlots.{slot_descriptor}
use Rattle.pv_files.proofs.ViewedMaps.{seen-set_some}
use Rattle.pv_files.proofs.descriptors.Descriptors.set.Goals as goal

pub returns : goal.returns
returns c =
    let within : c.args.d < length c.self.inside.slots = omega (arith, c.self.invariant, c.requires) in
    let given : Descriptor = record { file = c.args.file; close_on_exec = false } in
    seen-set_some slot_descriptor c.self.inside.slots c.args.d _ within ∙ ap (λ ds. with_number ds c.args.d given) c.self.view_is
