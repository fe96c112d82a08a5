use Rattle.std.proofs.Common.{◌∙◌, ◌≤◌, if◌then◌else◌, length, ap, sym, subst}
use Rattle.pv_model.specs.Machine.{bytes_of, at_number, OpenFile, node_at}
use Rattle.pv_calls_state.proofs.UncountedChanges.{some-at}
use Rattle.pv_calls_plain.proofs.FileCalls.{file-part, node-used, size-is}
use Rattle.pv_calls_plain.proofs.files.write_place.Goals as goal

pub size-requires : goal.size-requires
size-requires c =
    node-used c.args.parts.now c.requires.whole c.args.file c.tree.result.now.tree c.files-then-appends.result.now.files c.node.result c.tree.ensures c.files-then-appends.ensures c.requires.seekable.opened
    c.node.ensures

pub returns-then-appends-clause-place : goal.returns-then-appends-clause-place
returns-then-appends-clause-place c = λ pid me f at.
    let s = c.args.parts.now in
    let node = file-part (λ (f : OpenFile). f.node) c.files-then-appends.result.now.files s.files c.args.file f c.node.result c.files-then-appends.ensures c.node.ensures at in
    let appends = file-part (λ (f : OpenFile). f.append) c.files.result.now.files s.files c.args.file f c.appends.result c.files.ensures c.appends.ensures at in
    size-is s c.requires.whole c.args.file f at c.tree.result.now.tree c.node.result c.size.result c.tree.ensures node (c.requires.seekable.plain f at) c.size.ensures.value
    ∙ sym (ap (λ b. if b then length (bytes_of (node_at s.tree f.node)) else f.offset) (sym appends ∙ c.if-appends.true))

pub returns-else-appends-clause-low : goal.returns-else-appends-clause-low
returns-else-appends-clause-low c =
    let s = c.args.parts.now in
    let file = some-at (at_number s.files c.args.file) c.requires.seekable.opened in
    let offset = file-part (λ (f : OpenFile). f.offset) c.files-else-appends.result.now.files s.files c.args.file file.0 c.offset.result c.files-else-appends.ensures c.offset.ensures file.1 in
    subst (λ n. n ≤ 2147483647) (sym offset) (c.requires.whole.files.each c.args.file file.0 file.1).offset
