use Rattle.std.proofs.Common.{◌≡◌, ◌++◌, ◌-◌, ℕ, length, min, take, drop, append-nil, ap, sym, ◌∙◌, arith}
use Rattle.std.specs.Prelude.{flat_map}
use Rattle.std.proofs.lemmas.List.{take_all, take_rest}
use Rattle.pv_model.specs.Machine.{block, block_count, inode}
use Rattle.pv_image_mount.specs.Rows.{pointer_row}
use Rattle.pv_image_mount.proofs.PointerRows.{content_more, take-row, used_content-rows}
use Rattle.pv_image_mount.proofs.image.Image.used_content.Goals as goal

pub loop-k-init : goal.loop-k-init
loop-k-init c =
    let v = c.args.self.now.version in
    let bytes = c.args.self.now.bytes.now in
    let count = block_count v bytes c.args.n in
    let following = drop 8 (inode v bytes c.args.n) in
    rw (c.in_ok-add_pointers.ensures, c.in_ok-list.ensures.items, c.inode.ensures.bytes, take_rest (inode v bytes c.args.n) 8)
    (ap (λ m. pointer_row m following) (c.min.ensures ∙ ap (λ m. min m 10) c.block_count-count.ensures) ∙ sym (take-row count 10 following) ∙ ap (take count) (sym (append-nil (pointer_row 10 following))))

pub loop-k-preserved : goal.loop-k-preserved
loop-k-preserved c =
    let v = c.args.self.now.version in
    let bytes = c.args.self.now.bytes.now in
    let count = block_count v bytes c.args.n in
    let list = c.loop-k.list.items in
    let reported : c.block_count-count.result ≡ count = c.block_count-count.ensures in
    let left : c.saturating_sub-left.result ≡ count - length list = omega (arith, c.saturating_sub-left.ensures, c.len.ensures, c.loop-k.list.ok.0, reported) in
    c.in_ok-add_pointers-2.ensures
    ∙ ap (λ m. list ++ pointer_row m c.block.result.now) (c.min-in-loop-k.ensures ∙ ap (λ m. min m 256) left)
    ∙ ap (λ b. list ++ pointer_row (min (count - length list) 256) b) c.block.ensures.bytes
    ∙ content_more count (pointer_row 10 (drop 8 (inode v bytes c.args.n))) bytes c.args.index.now c.loop-k.k-index c.loop-k-test.true list c.loop-k.invariant

pub returns : goal.returns
returns c =
    let v = c.args.self.now.version in
    let bytes = c.args.self.now.bytes.now in
    let front = pointer_row 10 (drop 8 (inode v bytes c.args.n)) in
    let f = λ (k : ℕ). pointer_row 256 (block bytes k) in
    c.loop-k.invariant
    ∙ ap (λ ks. take (block_count v bytes c.args.n) (front ++ flat_map f ks)) (take_all c.loop-k.k-index c.args.index.now c.loop-k-test.false ∙ c.requires.index)
    ∙ sym (used_content-rows v bytes c.args.n)
