use Rattle.std.proofs.Common.{◌≡◌, ◌≤◌, arith}
use Rattle.pv_model.specs.Machine.{slot_length, greatest_name}
use Rattle.pv_image_mount.proofs.SlotRows.{name_within}
use Rattle.pv_image_mount.proofs.image.Image.is_bad_slot.Goals as goal

pub slot_name-requires : goal.slot_name-requires
slot_name-requires c =
    let v = c.args.self.now.version in
    let few : c.u8_at-length.result ≤ c.layout.result.name_limit = c.if-length-layout.false in
    let reported : c.u8_at-length.result ≡ slot_length c.args.slot.now = c.u8_at-length.ensures in
    let most : c.layout.result.name_limit ≡ greatest_name v = c.layout.ensures.name_limit in
    name_within v c.args.slot.now c.requires (omega (arith, few, reported, most))
