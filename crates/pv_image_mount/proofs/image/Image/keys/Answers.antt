use Rattle.std.proofs.Common.{◌≡◌, ◌<◌, ◌/◌, length, map, ap, subst, ◌∙◌, arith}
use Rattle.pv_model.specs.Machine.{slot_name, slots_of, entry_length}
use Rattle.pv_image_mount.specs.Slots.{name_key, slot_of_content, slot_key}
use Rattle.pv_image_mount.proofs.SlotRows.{keys_more, name_fits}
use Rattle.pv_image_mount.proofs.image.Image.keys.Goals as goal

pub slot_name-requires : goal.slot_name-requires
slot_name-requires c =
    let count = length c.args.content.now / entry_length c.args.self.now.version in
    let less : c.loop-i.i < count = subst (λ m. c.loop-i.i < m) c.slot_count-count.ensures c.loop-i-test.true in
    name_fits c.args.self.now.version c.args.self.now.bytes.now c.args.content.now c.slot.result.now count c.loop-i.i c.requires less c.slot.ensures.bytes c.slot.ensures.length

pub loop-i-preserved : goal.loop-i-preserved
loop-i-preserved c =
    let v = c.args.self.now.version in
    let content = c.args.content.now in
    let key : c.key_of.result ≡ slot_key (slot_of_content v content c.loop-i.i) = c.key_of.ensures ∙ ap name_key (c.slot_name.ensures ∙ ap slot_name c.slot.ensures.bytes) in
    keys_more v content c.loop-i.i c.loop-i.keys.items c.push.new.self.items c.key_of.result c.loop-i.invariant c.in_ok-push.ensures.items key

pub returns : goal.returns
returns c =
    let v = c.args.self.now.version in
    let all : c.loop-i.i ≡ c.slot_count-count.result = omega arith in
    subst (λ m. c.loop-i.keys.items ≡ map slot_key (slots_of v m c.args.content.now)) (all ∙ c.slot_count-count.ensures) c.loop-i.invariant
