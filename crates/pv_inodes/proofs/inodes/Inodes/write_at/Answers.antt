use Rattle.std.proofs.Common.{◌≡◌, ◌+◌, ◌<◌, max, length, refl, sym, ap, ◌∙◌, arith}
use Rattle.std.proofs.lemmas.Bool.{eqb-false}
use Rattle.pv_model.specs.Machine.{resize, greatest_length}
use Rattle.pv_inodes.specs.Files.{Files, inode_bytes_at}
use Rattle.pv_inodes.proofs.ByteLists.{length-resize}
use Rattle.pv_inodes.proofs.EditedFiles.{used-files_with_bytes, inode_bytes_at-files_with_bytes, lacks_room-written_files, has_room-written_files, written_files-lengthened}
use Rattle.pv_inodes.proofs.inodes.Inodes.write_at.Goals as goal
use Rattle.pv_inodes.proofs.inodes.Inodes.write_at.Goals.{After-max-length}

-- at least one byte is written
some : (c : After-max-length) → 0 < length c.args.bytes.now
some c =
    let differs = eqb-false (length c.args.bytes.now) 0 (sym c.if-is_empty.ensures) in
    omega arith

size_is : (c : After-max-length) → c.max-length.result ≡ max (length (inode_bytes_at c.args.self.now c.args.inode)) (c.args.at + length c.args.bytes.now)
size_is c = c.max-length.ensures ∙ ap (λ n. max n (c.args.at + length c.args.bytes.now)) c.size.ensures.value

pub returns-then-not-has_room-clause-full : goal.returns-then-not-has_room-clause-full
returns-then-not-has_room-clause-full c =
    let before = (goal.at.returns-then-not-has_room-clause-full c).After-max-length in
    (λ _. (some before, omega (arith, ap greatest_length c.version.ensures), lacks_room-written_files _ _ _ _ _ c.requires (some before) (size_is before) (c.has_room.ensures.wanting c.if-not-has_room.true)), λ _. refl)

pub overwrite-requires-clause-used : goal.overwrite-requires-clause-used
overwrite-requires-clause-used c = rw c.grow.ensures (used-files_with_bytes c.args.self.now c.args.inode (resize (inode_bytes_at c.args.self.now c.args.inode) c.max-length.result) c.requires)

pub overwrite-requires-clause-within : goal.overwrite-requires-clause-within
overwrite-requires-clause-within c =
    let before = (goal.at.overwrite-requires-clause-within c).After-max-length in
    let long = ap (λ (f : Files). length (inode_bytes_at f c.args.inode)) c.grow.ensures ∙ ap length (inode_bytes_at-files_with_bytes c.args.self.now c.args.inode (resize (inode_bytes_at c.args.self.now c.args.inode) c.max-length.result) c.requires) ∙ length-resize (inode_bytes_at c.args.self.now c.args.inode) c.max-length.result in
    omega (arith, long, size_is before)

pub returns-clause-ok : goal.returns-clause-ok
returns-clause-ok c =
    let before = (goal.at.returns-clause-ok c).After-max-length in
    c.overwrite.ensures ∙ written_files-lengthened c.args.self.now c.grow.new.self c.args.inode c.args.at c.max-length.result c.args.bytes.now c.requires (some before) (size_is before) c.grow.ensures

pub returns-clause-full : goal.returns-clause-full
returns-clause-full c =
    let before = (goal.at.returns-clause-full c).After-max-length in
    let has = has_room-written_files c.args.self.now c.args.inode c.args.at c.max-length.result c.args.bytes.now c.requires (some before) (size_is before) (c.has_room.ensures.enough c.if-not-has_room.false) in
    (λ impossible. cc, λ lacks. absurd (omega (arith, has, lacks.2)))
