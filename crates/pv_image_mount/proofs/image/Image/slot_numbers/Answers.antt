use Rattle.std.proofs.Common.{◌≡◌, map, ap, subst, ◌∙◌, arith}
use Rattle.pv_model.specs.Machine.{slot_number, slots_of}
use Rattle.pv_image_mount.proofs.SlotTargets.{numbers_more, slot_long}
use Rattle.pv_image_mount.proofs.image.Image.slot_numbers.Goals as goal

pub u16_at-requires : goal.u16_at-requires
u16_at-requires c = let long = slot_long c.args.self.now.version in let whole = c.slot.ensures.length in omega (arith, long, whole)

pub loop-i-preserved : goal.loop-i-preserved
loop-i-preserved c =
    numbers_more c.args.self.now.version c.args.content.now c.loop-i.i c.loop-i.numbers.items c.push.new.self.items c.u16_at.result
    c.loop-i.invariant c.in_ok-push.ensures.items (c.u16_at.ensures ∙ ap slot_number c.slot.ensures.bytes)

pub returns : goal.returns
returns c =
    let all : c.loop-i.i ≡ c.slot_count-count.result = omega arith in
    subst (λ m. c.loop-i.numbers.items ≡ map slot_number (slots_of c.args.self.now.version m c.args.content.now)) (all ∙ c.slot_count-count.ensures) c.loop-i.invariant
