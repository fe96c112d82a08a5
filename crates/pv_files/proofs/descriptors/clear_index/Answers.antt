use Rattle.pv_files.specs.DescriptorSlots.{slot_descriptor}
use Rattle.pv_files.proofs.ViewedMaps.{seen-set_none, seen-past}
use Rattle.pv_files.proofs.descriptors.clear_index.Goals as goal

pub returns-then-k-slots : goal.returns-then-k-slots
returns-then-k-slots c = seen-set_none slot_descriptor c.args.slots.now c.args.k

pub returns-else-k-slots : goal.returns-else-k-slots
returns-else-k-slots c = seen-past slot_descriptor c.args.slots.now c.args.k c.if-k-slots.false
