use Rattle.std.proofs.Common.{◌≡◌, map}
use Rattle.pv_model.specs.Machine.{slot_name, slots_of}
use Rattle.pv_image_mount.proofs.image.Image.names.Given as goal

abbrev pub invariant-loop-i : goal.invariant-loop-i
invariant-loop-i l = map (λ name. name.now) l.names.items ≡ map slot_name (slots_of l.self.version l.i l.content)
