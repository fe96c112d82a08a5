use Rattle.std.proofs.Common.{◌≡◌, take}
use Rattle.std.specs.Prelude.{flat_map}
use Rattle.pv_model.specs.Machine.{block}
use Rattle.pv_image_mount.proofs.image.Image.gather.Given as goal

abbrev pub invariant-loop-k : goal.invariant-loop-k
invariant-loop-k l = l.bytes.items ≡ flat_map (block l.self.bytes.now) (take l.k-index l.blocks)
