use Rattle.std.proofs.Common.{◌≡◌, ap, sym, ◌∙◌, Ok, []}
use Rattle.pv_model.specs.Machine.{is_file, file_node, node_at, with_new_node}
use Rattle.pv_tree.specs.Changes.{new_node}
use Rattle.pv_tree.specs.Rooms.{room_error}
use Rattle.pv_image_manifest.proofs.NewFiles.{in-room, out-of-room, room-some, file-there, file-written-in, no-room-empty}
use Rattle.pv_image_manifest.proofs.adding.make_file.Goals as goal

pub returns-in_default-clause-made : goal.returns-in_default-clause-made
returns-in_default-clause-made c = λ line.
    let t = c.args.tree.now.tree in
    let d = c.args.directory in
    let name = c.args.name.now in
    out-of-room line (with_new_node t d name (file_node c.args.executable c.args.bytes.now))
    (no-room-empty t c.invariant.ensures.well_formed d name c.args.executable c.requires.directory.0 c.requires.absent c.args.bytes.now c.in_default.field-0
    (ap (λ node. room_error (with_new_node t d name node)) (sym c.file_kind.ensures) ∙ c.in_default.ensures.change.refused))

pub write_at-requires : goal.write_at-requires
write_at-requires c =
    let t = c.args.tree.now.tree in
    let d = c.args.directory in
    let name = c.args.name.now in
    let x = c.args.executable in
    ap (λ h. is_file (node_at h.tree c.in-Ok.node)) c.in-Ok.ensures.change.ok ∙ ap (λ node. is_file (node_at (with_new_node t d name node) c.in-Ok.node)) c.file_kind.ensures
    ∙ ap (λ n. is_file (node_at (with_new_node t d name (file_node x [])) n)) c.in-Ok.ensures.number
    ∙ ap is_file (file-there t c.invariant.ensures.well_formed d name x c.requires.directory.0 c.requires.absent [])

pub returns-in_default-write_at-clause-made : goal.returns-in_default-write_at-clause-made
returns-in_default-write_at-clause-made c = λ line.
    let made = with_new_node c.args.tree.now.tree c.args.directory c.args.name.now (file_node c.args.executable c.args.bytes.now) in
    let written =
    file-written-in c.args.tree.now.tree c.invariant.ensures.well_formed c.args.directory c.args.name.now c.args.executable c.requires.directory.0 c.requires.absent c.args.bytes.now
    c.make.new.self.tree (new_node c.file_kind.result) c.in-Ok.node (ap (λ h. h.tree) c.in-Ok.ensures.change.ok) c.file_kind.ensures c.in-Ok.ensures.number
    in
    out-of-room line made (room-some made c.in_default-write_at.field-0 (ap room_error (sym written) ∙ c.in_default-write_at.ensures.change.refused))

pub returns-clause-made : goal.returns-clause-made
returns-clause-made c = λ line.
    let made = with_new_node c.args.tree.now.tree c.args.directory c.args.name.now (file_node c.args.executable c.args.bytes.now) in
    let written =
    file-written-in c.args.tree.now.tree c.invariant.ensures.well_formed c.args.directory c.args.name.now c.args.executable c.requires.directory.0 c.requires.absent c.args.bytes.now
    c.make.new.self.tree (new_node c.file_kind.result) c.in-Ok.node (ap (λ h. h.tree) c.in-Ok.ensures.change.ok) c.file_kind.ensures c.in-Ok.ensures.number
    in
    let is : c.write_at.new.self.tree ≡ made = ap (λ h. h.tree) c.in-Ok-write_at.ensures.change.ok ∙ written in
    in-room line made (ap room_error (sym written) ∙ c.in-Ok-write_at.ensures.change.allowed) ∙ ap (λ t. Ok t) (sym is)

pub returns-clause-version : goal.returns-clause-version
returns-clause-version c =
    let written =
    file-written-in c.args.tree.now.tree c.invariant.ensures.well_formed c.args.directory c.args.name.now c.args.executable c.requires.directory.0 c.requires.absent c.args.bytes.now
    c.make.new.self.tree (new_node c.file_kind.result) c.in-Ok.node (ap (λ h. h.tree) c.in-Ok.ensures.change.ok) c.file_kind.ensures c.in-Ok.ensures.number
    in
    ap (λ t. t.version) (ap (λ h. h.tree) c.in-Ok-write_at.ensures.change.ok ∙ written)
