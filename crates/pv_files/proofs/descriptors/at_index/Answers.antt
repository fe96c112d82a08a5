use Rattle.std.proofs.Common.{sym}
use Rattle.pv_model.proofs.NumberMaps.{at_number_past}
use Rattle.pv_files.specs.DescriptorSlots.{slot_descriptor}
use Rattle.pv_files.proofs.ViewedMaps.{at_number-seen_read}
use Rattle.pv_files.proofs.descriptors.at_index.Goals as goal

pub returns-then-k-slots : goal.returns-then-k-slots
returns-then-k-slots c = sym (at_number-seen_read slot_descriptor c.args.slots.now c.args.k)

pub returns-else-k-slots : goal.returns-else-k-slots
returns-else-k-slots c = sym (at_number_past slot_descriptor c.args.slots.now c.args.k c.if-k-slots.false)
