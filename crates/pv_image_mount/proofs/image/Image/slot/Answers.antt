use Rattle.std.proofs.Common.{◌≡◌, ◌+◌, ◌-◌, ◌*◌, take, drop, ap, ◌∙◌, arith}
use Rattle.pv_image_mount.proofs.image.Image.slot.Goals as goal

pub returns-clause-bytes : goal.returns-clause-bytes
returns-clause-bytes c =
    let long = c.layout-length.result.slot_length in
    let cut : long * c.args.i + long - long * c.args.i ≡ long = omega arith in
    ap (λ m. take m (drop (long * c.args.i) c.args.content.now)) cut
    ∙ ap (λ m. take m (drop (m * c.args.i) c.args.content.now)) c.layout-length.ensures.slot_length
