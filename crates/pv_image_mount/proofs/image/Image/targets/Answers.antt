use Rattle.std.proofs.Common.{◌≡◌, ◌*◌, ◌/◌, length, map, ap, sym, ◌∙◌}
use Rattle.pv_model.specs.Machine.{content, size, kind, slot_number, slots_of, entry_length}
use Rattle.pv_image_mount.specs.Places.{targets_of}
use Rattle.pv_image_mount.proofs.BadContents.{other, used_kind}
use Rattle.pv_image_mount.proofs.InodeContents.{length_content}
use Rattle.pv_image_mount.proofs.SlotTargets.{targets-directory, targets-other}
use Rattle.pv_image_mount.proofs.image.Image.targets.Goals as goal

pub content-requires-clause-used : goal.content-requires-clause-used
content-requires-clause-used c = used_kind c.args.self.now.version c.args.self.now.bytes.now c.args.n 1 (λ is. cc) (sym c.kind.ensures ∙ c.if-kind-eq-DIRECTORY.true)

pub returns-in_ok-content : goal.returns-in_ok-content
returns-in_ok-content c =
    let v = c.args.self.now.version in
    let bytes = c.args.self.now.bytes.now in
    let n = c.args.n in
    let kind : kind v bytes n ≡ 1 = sym c.kind.ensures ∙ c.if-kind-eq-DIRECTORY.true in
    let listed : c.as_slice.result.now ≡ content v bytes n = c.as_slice.ensures.value ∙ c.in_ok-content.ensures in
    let whole = c.args.self.now.are_whole ∙ ap (λ m. 512 * m) c.args.self.now.are_blocks in
    let long : length (content v bytes n) ≡ size v bytes n = length_content v bytes n c.requires.inode c.requires.block (used_kind v bytes n 1 (λ is. cc) kind) whole in
    let same : map slot_number (slots_of v (length c.as_slice.result.now / entry_length v) c.as_slice.result.now) ≡ targets_of v bytes n =
    ap (λ l. map slot_number (slots_of v (length l / entry_length v) l)) listed
    ∙ ap (λ m. map slot_number (slots_of v (m / entry_length v) (content v bytes n))) long
    ∙ sym (targets-directory v bytes n kind) in
    rw (← same) c.slot_numbers.ensures

pub returns-else-kind-eq-DIRECTORY : goal.returns-else-kind-eq-DIRECTORY
returns-else-kind-eq-DIRECTORY c =
    let v = c.args.self.now.version in
    let bytes = c.args.self.now.bytes.now in
    c.new.ensures.items ∙ sym (targets-other v bytes c.args.n (other (kind v bytes c.args.n) 1 (λ is. c.if-kind-eq-DIRECTORY.false (c.kind.ensures ∙ is))))
