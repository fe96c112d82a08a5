use Rattle.std.proofs.Common.{◌≡◌, ◌-◌, ◌<◌, ◌≤◌, ◌/◌, ℕ, length, below_more, true, ap, subst, sym, ◌∙◌, arith}
use Rattle.std.specs.Cmp.Lexicographic.{slice_cmp}
use Rattle.std.specs.Ordering.{nat_cmp, is_lt}
use Rattle.pv_model.specs.declared.version.Version.{Version}
use Rattle.pv_model.specs.Machine.{Bytes, slot_name, entry_length}
use Rattle.pv_image_mount.specs.Slots.{slot_of_content}
use Rattle.pv_image_mount.proofs.SlotRows.{name_fits}
use Rattle.pv_image_mount.proofs.image.Image.names_ascend.Goals as goal

-- names that are read from slots
answer : (v : Version) (content : Bytes) (i j : ℕ) (a b x y : Bytes) → a ≡ slot_of_content v content i → b ≡ slot_of_content v content j → x ≡ slot_name a → y ≡ slot_name b
    → is_lt (slice_cmp nat_cmp x y) ≡ is_lt (slice_cmp nat_cmp (slot_name (slot_of_content v content i)) (slot_name (slot_of_content v content j)))
answer v content i j a b x y first second named other =
    ap (λ m. is_lt (slice_cmp nat_cmp m y)) (named ∙ ap slot_name first) ∙ ap (λ m. is_lt (slice_cmp nat_cmp (slot_name (slot_of_content v content i)) m)) (other ∙ ap slot_name second)

pub slot_name-before-requires : goal.slot_name-before-requires
slot_name-before-requires c =
    let count = length c.args.content.now / entry_length c.args.self.now.version in
    let less : c.loop-i.i < count = subst (λ m. c.loop-i.i < m) c.slot_count-i-end.ensures c.loop-i-test.true in
    let before : c.loop-i.i - 1 < count = omega (arith, less) in
    name_fits c.args.self.now.version c.args.self.now.bytes.now c.args.content.now c.slot.result.now count (c.loop-i.i - 1) c.requires before c.slot.ensures.bytes c.slot.ensures.length

pub slot_name-requires : goal.slot_name-requires
slot_name-requires c =
    let count = length c.args.content.now / entry_length c.args.self.now.version in
    let less : c.loop-i.i < count = subst (λ m. c.loop-i.i < m) c.slot_count-i-end.ensures c.loop-i-test.true in
    name_fits c.args.self.now.version c.args.self.now.bytes.now c.args.content.now c.slot-in-loop-i.result.now count c.loop-i.i c.requires less c.slot-in-loop-i.ensures.bytes c.slot-in-loop-i.ensures.length

pub returns-then-not-is_before : goal.returns-then-not-is_before
returns-then-not-is_before c =
    let v = c.args.self.now.version in
    let content = c.args.content.now in
    let i = c.loop-i.i in
    let less : i < length content / entry_length v = subst (λ m. i < m) c.slot_count-i-end.ensures c.loop-i-test.true in (
      λ never. absurd cc,
      λ all.
          let here : is_lt (slice_cmp nat_cmp (slot_name (slot_of_content v content (i - 1))) (slot_name (slot_of_content v content i))) ≡ true = all i less c.loop-i.auto.i in
          let reported = answer v content (i - 1) i c.slot.result.now c.slot-in-loop-i.result.now c.slot_name-before.result.now c.slot_name.result.now
          c.slot.ensures.bytes c.slot-in-loop-i.ensures.bytes c.slot_name-before.ensures c.slot_name.ensures in
          sym c.if-not-is_before.true ∙ c.is_before.ensures ∙ reported ∙ here,
    )

pub loop-i-preserved : goal.loop-i-preserved
loop-i-preserved c =
    let v = c.args.self.now.version in
    let content = c.args.content.now in
    let i = c.loop-i.i in
    below_more (λ k. 1 ≤ k → is_lt (slice_cmp nat_cmp (slot_name (slot_of_content v content (k - 1))) (slot_name (slot_of_content v content k))) ≡ true) i c.loop-i.invariant
    (λ low.
    let reported = answer v content (i - 1) i c.slot.result.now c.slot-in-loop-i.result.now c.slot_name-before.result.now c.slot_name.result.now
    c.slot.ensures.bytes c.slot-in-loop-i.ensures.bytes c.slot_name-before.ensures c.slot_name.ensures in
    sym reported ∙ sym c.is_before.ensures ∙ c.if-not-is_before.false)
