use Rattle.std.proofs.Common.{◌≡◌, ◌<◌, ◌/◌, length, false, ap, sym, subst, ◌∙◌, arith}
use Rattle.std.specs.List.{list_any}
use Rattle.pv_model.specs.Machine.{is_bad_slot, slots_of, entry_length}
use Rattle.pv_image_mount.proofs.SlotRows.{any_slot_at, any_slot_more}
use Rattle.pv_image_mount.proofs.image.Image.has_bad_slot.Goals as goal

pub loop-i-preserved : goal.loop-i-preserved
loop-i-preserved c =
    let v = c.args.self.now.version in
    let bad = is_bad_slot v c.args.self.now.bytes.now in
    any_slot_more bad v c.args.content.now c.loop-i.i c.loop-i.invariant (ap bad (sym c.slot.ensures.bytes) ∙ sym c.is_bad_slot.ensures ∙ c.if-is_bad_slot.false)

pub returns-then-is_bad_slot : goal.returns-then-is_bad_slot
returns-then-is_bad_slot c =
    let v = c.args.self.now.version in
    let bad = is_bad_slot v c.args.self.now.bytes.now in
    let count = length c.args.content.now / entry_length v in
    let less : c.loop-i.i < count = subst (λ m. c.loop-i.i < m) c.slot_count-i-end.ensures c.loop-i-test.true in
    sym (any_slot_at bad v c.args.content.now count c.loop-i.i less (ap bad (sym c.slot.ensures.bytes) ∙ sym c.is_bad_slot.ensures ∙ c.if-is_bad_slot.true))

pub returns : goal.returns
returns c =
    let v = c.args.self.now.version in
    let bad = is_bad_slot v c.args.self.now.bytes.now in
    let all : c.loop-i.i ≡ c.slot_count-i-end.result = omega arith in
    subst (λ m. false ≡ list_any bad (slots_of v m c.args.content.now)) (all ∙ c.slot_count-i-end.ensures) (sym c.loop-i.invariant)
