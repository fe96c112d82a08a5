use Rattle.pv_files.specs.DescriptorSlots.{slot_descriptor}
use Rattle.pv_files.proofs.ViewedMaps.{room_found}
use Rattle.pv_files.proofs.descriptors.Descriptors.has_room.Goals as goal

pub returns : goal.returns
returns c = rw (c.is_some.ensures, ← c.self.view_is) (room_found slot_descriptor c.self.inside.slots 16 c.first_free.result c.self.invariant c.first_free.ensures)
