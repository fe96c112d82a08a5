use Rattle.pv_image_mount.specs.Slots.{NamesAscend}
use Rattle.pv_image_mount.proofs.image.Image.names_ascend.Given as goal

abbrev pub invariant-loop-i : goal.invariant-loop-i
invariant-loop-i l = NamesAscend l.self.version l.i l.content
