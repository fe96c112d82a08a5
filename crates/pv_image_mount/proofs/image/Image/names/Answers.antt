use Rattle.std.proofs.Common.{◌≡◌, ◌<◌, ◌/◌, ℕ, List, Bor, length, map, ap, subst, ◌∙◌, arith}
use Rattle.pv_model.specs.Machine.{slot_name, slots_of, entry_length}
use Rattle.pv_image_mount.proofs.SlotRows.{name_fits, names_more}
use Rattle.pv_image_mount.proofs.image.Image.names.Goals as goal

pub slot_name-requires : goal.slot_name-requires
slot_name-requires c =
    let count = length c.args.content.now / entry_length c.args.self.now.version in
    let less : c.loop-i.i < count = subst (λ m. c.loop-i.i < m) c.slot_count-count.ensures c.loop-i-test.true in
    name_fits c.args.self.now.version c.args.self.now.bytes.now c.args.content.now c.slot.result.now count c.loop-i.i c.requires less c.slot.ensures.bytes c.slot.ensures.length

pub loop-i-preserved : goal.loop-i-preserved
loop-i-preserved c =
    names_more (λ (name : Bor (List ℕ)). name.now) c.args.self.now.version c.args.content.now c.loop-i.i c.loop-i.names.items c.push.new.self.items c.slot_name.result
    c.loop-i.invariant c.in_ok-push.ensures.items (c.slot_name.ensures ∙ ap slot_name c.slot.ensures.bytes)

pub returns : goal.returns
returns c =
    let v = c.args.self.now.version in
    let all : c.loop-i.i ≡ c.slot_count-count.result = omega arith in
    subst (λ m. map (λ (name : Bor (List ℕ)). name.now) c.loop-i.names.items ≡ map slot_name (slots_of v m c.args.content.now)) (all ∙ c.slot_count-count.ensures) c.loop-i.invariant
