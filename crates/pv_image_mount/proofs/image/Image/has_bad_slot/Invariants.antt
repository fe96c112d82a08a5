use Rattle.std.proofs.Common.{◌≡◌, false}
use Rattle.std.specs.List.{list_any}
use Rattle.pv_model.specs.Machine.{is_bad_slot, slots_of}
use Rattle.pv_image_mount.proofs.image.Image.has_bad_slot.Given as goal

abbrev pub invariant-loop-i : goal.invariant-loop-i
invariant-loop-i l = list_any (is_bad_slot l.self.version l.self.bytes.now) (slots_of l.self.version l.i l.content) ≡ false
