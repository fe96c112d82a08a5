use Rattle.std.proofs.Common.{◌∙◌, ◌++◌, min, ap, sym, length, take, drop}
use Rattle.std.proofs.lemmas.List.{length-drop}
use Rattle.pv_procs.specs.OfTree.OfDirs.Trees.{node_bytes_at}
use Rattle.pv_model.specs.Machine.{bytes_of, node_at}
use Rattle.pv_calls_state.proofs.ReadBuffers.{read-in, same-bytes}
use Rattle.pv_calls_state.proofs.parts.process.read_part.Goals as goal

pub returns-clause-front : goal.returns-clause-front
returns-clause-front c =
    let at = c.args.at in
    let buffer = c.args.buffer.now in
    let count = c.args.count in
    let taken = c.read_at.result in
    let node = node_at c.args.tree.now.tree c.args.node in
    let same = ap (drop at) (same-bytes node c.requires.file) in
    let read = c.read_at.ensures.count ∙ ap (min (length (take count buffer))) (sym (length-drop at (node_bytes_at c.args.tree.now.tree c.args.node)) ∙ ap length same) in
    read-in buffer (drop at (bytes_of node)) c.read_at.new.buffer count taken c.requires.room read (c.read_at.ensures.bytes ∙ ap (λ xs. take taken xs ++ drop taken (take count buffer)) same)
