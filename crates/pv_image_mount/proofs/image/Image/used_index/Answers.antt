use Rattle.std.proofs.Common.{◌≡◌, ◌-◌, drop, ap, rules}
use Rattle.std.proofs.lemmas.List.{take_rest}
use Rattle.pv_model.specs.Machine.{block_count, inode, rounded_up}
use Rattle.pv_image_mount.specs.Rows.{pointer_row}
use Rattle.pv_image_mount.proofs.PointerRows.{used_index-row}
use Rattle.pv_image_mount.proofs.image.Image.used_index.Goals as goal

pub returns : goal.returns
returns c =
    let v = c.args.self.now.version in
    let bytes = c.args.self.now.bytes.now in
    let parts : c.div_ceil-count.result ≡ rounded_up (block_count v bytes c.args.n - 10) 256 = search rules in
    let index = used_index-row v bytes c.args.n c.requires.size in
    rw (index, c.in_ok-add_pointers.ensures, c.in_ok-list.ensures.items, c.inode.ensures.bytes, take_rest (inode v bytes c.args.n) 28)
    (ap (λ m. pointer_row m (drop 28 (inode v bytes c.args.n))) parts)
