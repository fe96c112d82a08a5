use Rattle.std.proofs.Common.{◌/◌, ℕ, List, Bor, length, map, ap, sym, ◌∙◌}
use Rattle.std.specs.Prelude.{◌==◌, bytes_eq}
use Rattle.pv_model.specs.Machine.{slots_of, appears_twice, entry_length}
use Rattle.pv_image_mount.proofs.BadContents.{bad_slots_any, bad_slots_twice}
use Rattle.pv_image_mount.proofs.SlotRows.{ascending_once, once_by_key}
use Rattle.pv_image_mount.proofs.image.Image.are_bad_slots.Goals as goal

pub returns-then-has_bad_slot : goal.returns-then-has_bad_slot
returns-then-has_bad_slot c =
    let v = c.args.self.now.version in
    let slots = slots_of v (length c.args.content.now / entry_length v) c.args.content.now in
    sym (bad_slots_any v c.args.self.now.bytes.now slots (sym c.has_bad_slot.ensures ∙ c.if-has_bad_slot.true))

pub names_ascend-requires : goal.names_ascend-requires
names_ascend-requires c = sym c.has_bad_slot.ensures ∙ c.if-has_bad_slot.false

pub returns-then-names_ascend : goal.returns-then-names_ascend
returns-then-names_ascend c =
    let v = c.args.self.now.version in
    let content = c.args.content.now in
    let count = length content / entry_length v in
    sym (bad_slots_twice v c.args.self.now.bytes.now (slots_of v count content) (sym c.has_bad_slot.ensures ∙ c.if-has_bad_slot.false)
    ∙ ascending_once v content count (c.names_ascend.ensures.0 c.if-names_ascend.true))

pub keys-requires : goal.keys-requires
keys-requires c = sym c.has_bad_slot.ensures ∙ c.if-has_bad_slot.false

pub returns-then-not-are_keys_shared : goal.returns-then-not-are_keys_shared
returns-then-not-are_keys_shared c =
    let v = c.args.self.now.version in
    let slots = slots_of v (length c.args.content.now / entry_length v) c.args.content.now in
    sym (bad_slots_twice v c.args.self.now.bytes.now slots (sym c.has_bad_slot.ensures ∙ c.if-has_bad_slot.false)
    ∙ once_by_key slots
    (sym (ap (appears_twice ◌==◌) (c.as_mut_slice.ensures.value ∙ c.in_ok-keys.ensures)) ∙ sym c.are_keys_shared.ensures ∙ c.if-not-are_keys_shared.true))

pub names-requires : goal.names-requires
names-requires c = sym c.has_bad_slot.ensures ∙ c.if-has_bad_slot.false

pub returns : goal.returns
returns c =
    let v = c.args.self.now.version in
    let slots = slots_of v (length c.args.content.now / entry_length v) c.args.content.now in
    c.appears_twice.ensures
    ∙ ap (λ (names : List (Bor (List ℕ))). appears_twice bytes_eq (map (λ (name : Bor (List ℕ)). name.now) names)) c.as_mut_slice-2.ensures.value
    ∙ ap (appears_twice bytes_eq) c.in_ok-names.ensures
    ∙ sym (bad_slots_twice v c.args.self.now.bytes.now slots (sym c.has_bad_slot.ensures ∙ c.if-has_bad_slot.false))
