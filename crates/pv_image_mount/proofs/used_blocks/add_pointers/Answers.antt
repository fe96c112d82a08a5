use Rattle.std.proofs.Common.{◌++◌, ◌∷◌, [], append_assoc, append-nil, ap, sym, ◌∙◌}
use Rattle.pv_image_mount.specs.Rows.{pointer_row}
use Rattle.pv_image_mount.proofs.PointerRows.{row_more, row_none}
use Rattle.pv_image_mount.proofs.used_blocks.add_pointers.Goals as goal

pub loop-i-preserved : goal.loop-i-preserved
loop-i-preserved c =
    let front = c.args.list.now.items in
    let before = pointer_row c.loop-i.i c.args.bytes.now in
    c.in_ok-push.ensures.items
    ∙ ap (λ xs. xs ++ c.u16_at.result ∷ []) c.loop-i.invariant
    ∙ append_assoc front before (c.u16_at.result ∷ [])
    ∙ ap (λ x. front ++ (before ++ x ∷ [])) c.u16_at.ensures
    ∙ ap (λ ps. front ++ ps) (sym (row_more c.loop-i.i c.args.bytes.now))

pub loop-i-init : goal.loop-i-init
loop-i-init c = sym (ap (λ ps. c.args.list.now.items ++ ps) (row_none c.args.bytes.now) ∙ append-nil c.args.list.now.items)
