use Rattle.std.proofs.Common.{◌≡◌, ◌*◌, ◌/◌, length, IfOk, ap, sym, subst, ◌∙◌}
use Rattle.std.specs.Prelude.{◌==◌}
use Rattle.std.specs.List.{list_any}
use Rattle.pv_model.specs.Machine.{content, size, slots_of, entry_length}
use Rattle.pv_image_mount.specs.Slots.{are_bad_slots}
use Rattle.pv_image_mount.proofs.BadContents.{in_directory, in_link, in_other, used_kind}
use Rattle.pv_image_mount.proofs.InodeContents.{length_content}
use Rattle.pv_image_mount.proofs.image.Image.has_bad_content.Goals as goal

pub content-requires-clause-used : goal.content-requires-clause-used
content-requires-clause-used c = used_kind c.args.self.now.version c.args.self.now.bytes.now c.args.n 1 (λ is. cc) (sym c.kind-kind.ensures ∙ c.if-kind-eq-DIRECTORY.true)

pub returns-in_ok-content : goal.returns-in_ok-content
returns-in_ok-content c =
    let v = c.args.self.now.version in
    let bytes = c.args.self.now.bytes.now in
    let n = c.args.n in
    let kind = sym c.kind-kind.ensures ∙ c.if-kind-eq-DIRECTORY.true in
    let listed : c.as_slice.result.now ≡ content v bytes n = c.as_slice.ensures.value ∙ c.in_ok-content.ensures in
    let long : length (content v bytes n) ≡ size v bytes n = length_content v bytes n c.requires.inode c.requires.block (used_kind v bytes n 1 (λ is. cc) kind) (c.args.self.now.are_whole ∙ ap (λ m. 512 * m) c.args.self.now.are_blocks) in
    subst (λ b. IfOk c.are_bad_slots.result (λ bad. bad ≡ b))
    (ap (λ l. are_bad_slots v bytes (slots_of v (length l / entry_length v) l)) listed
    ∙ ap (λ m. are_bad_slots v bytes (slots_of v (m / entry_length v) (content v bytes n))) long
    ∙ sym (in_directory v bytes n kind))
    c.are_bad_slots.ensures

pub returns-in_ok-text : goal.returns-in_ok-text
returns-in_ok-text c =
    let v = c.args.self.now.version in
    let bytes = c.args.self.now.bytes.now in
    let listed : c.as_slice-then-kind-eq-LINK.result.now ≡ content v bytes c.args.n = c.as_slice-then-kind-eq-LINK.ensures.value ∙ c.in_ok-text.ensures in
    c.contains.ensures.value ∙ ap (list_any (λ b. b == 0)) listed ∙ sym (in_link v bytes c.args.n (sym c.kind-kind.ensures ∙ c.if-kind-eq-LINK.true))

pub returns-else-kind-eq-LINK : goal.returns-else-kind-eq-LINK
returns-else-kind-eq-LINK c =
    sym (in_other c.args.self.now.version c.args.self.now.bytes.now c.args.n (λ is. c.if-kind-eq-DIRECTORY.false (c.kind-kind.ensures ∙ is)) (λ is. c.if-kind-eq-LINK.false (c.kind-kind.ensures ∙ is)))
