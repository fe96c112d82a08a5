use Rattle.std.proofs.Common.{◌≡◌, map}
use Rattle.pv_model.specs.Machine.{slots_of}
use Rattle.pv_image_mount.specs.Slots.{slot_key}
use Rattle.pv_image_mount.proofs.image.Image.keys.Given as goal

abbrev pub invariant-loop-i : goal.invariant-loop-i
invariant-loop-i l = l.keys.items ≡ map slot_key (slots_of l.self.version l.i l.content)
