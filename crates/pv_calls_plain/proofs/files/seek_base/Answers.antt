use Rattle.std.proofs.Common.{◌∙◌, ap, sym}
use Rattle.pv_model.specs.Machine.{seek_base, OpenFile}
use Rattle.pv_calls_plain.proofs.FileCalls.{file-part, node-used, size-is}
use Rattle.pv_calls_plain.proofs.files.seek_base.Goals as goal

pub size-requires : goal.size-requires
size-requires c =
    node-used c.args.parts.now c.requires.whole c.args.file c.tree.result.now.tree c.files-in-End.result.now.files c.node.result c.tree.ensures c.files-in-End.ensures c.requires.seekable.opened c.node.ensures

pub returns-in-End : goal.returns-in-End
returns-in-End c = λ pid me f at.
    let s = c.args.parts.now in
    let node = file-part (λ (f : OpenFile). f.node) c.files-in-End.result.now.files s.files c.args.file f c.node.result c.files-in-End.ensures c.node.ensures at in
    size-is s c.requires.whole c.args.file f at c.tree.result.now.tree c.node.result c.size.result c.tree.ensures node (c.requires.seekable.plain f at) c.size.ensures.value
    ∙ sym (ap (λ w. seek_base s pid me f w) c.in-End.is)
