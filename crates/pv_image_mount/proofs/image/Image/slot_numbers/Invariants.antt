use Rattle.std.proofs.Common.{◌≡◌, map}
use Rattle.pv_model.specs.Machine.{slot_number, slots_of}
use Rattle.pv_image_mount.proofs.image.Image.slot_numbers.Given as goal

abbrev pub invariant-loop-i : goal.invariant-loop-i
invariant-loop-i l = l.numbers.items ≡ map slot_number (slots_of l.self.version l.i l.content)
