use Rattle.std.proofs.Common.{◌≡◌, ◌++◌, take, drop}
use Rattle.std.specs.Prelude.{flat_map}
use Rattle.pv_model.specs.Machine.{block, block_count, inode}
use Rattle.pv_image_mount.specs.Rows.{pointer_row}
use Rattle.pv_image_mount.proofs.image.Image.used_content.Given as goal

abbrev pub invariant-loop-k : goal.invariant-loop-k
invariant-loop-k l =
    let v = l.self.version in
    let bytes = l.self.bytes.now in
    l.list.items ≡ take (block_count v bytes l.n) (pointer_row 10 (drop 8 (inode v bytes l.n)) ++ flat_map (λ k. pointer_row 256 (block bytes k)) (take l.k-index l.index))
