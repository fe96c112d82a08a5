use Rattle.std.proofs.Common.{◌≡◌, is_some, ap, sym, ◌∙◌}
use Rattle.pv_model.specs.Machine.{Tree, node_at, with_node, with_entry}
use Rattle.pv_dirs.specs.Trees.{empty_node, without_node}
use Rattle.pv_tree.specs.Changes.{new_node, kind_of_new}
use Rattle.pv_tree.specs.Rooms.{room_error}
use Rattle.pv_tree.proofs.NodeCreation.{at-err, at-ok, there-filled, emptied-again}
use Rattle.pv_tree.proofs.RoomForEntries.{refused-before}
use Rattle.pv_tree.proofs.tree.making.furnish.Goals as goal

pub returns-then-is_err-clause-change : goal.returns-then-is_err-clause-change
returns-then-is_err-clause-change c =
    let failed = sym c.is_err.ensures.value ∙ c.if-is_err.true in
    record {
      ok = tt;
      err = c.drop_inode.ensures ∙ ap (λ (t : Tree). without_node t c.args.node) (at-err c.fill.result failed c.fill.ensures.err);
      allowed = tt;
      refused = refused-before (with_node c.args.directories.now c.args.node (new_node c.args.kind)) c.requires.shaped c.args.directory c.args.name.now c.args.node c.requires.entry.directory c.requires.entry.absent
          c.requires.few (at-err c.fill.result failed c.fill.ensures.full);
    }

pub drop_inode-requires-in-Err : goal.drop_inode-requires-in-Err
drop_inode-requires-in-Err c =
    let same : c.enter.new.directories ≡ with_node c.args.directories.now c.args.node (new_node c.args.kind) =
    c.in-Err.ensures.err ∙ at-ok c.fill.result (sym c.is_err.ensures.value ∙ c.if-is_err.false) c.fill.ensures.ok in
    ap (λ (t : Tree). is_some (node_at t c.args.node)) same
    ∙ there-filled c.args.directories.now c.args.node (empty_node (kind_of_new c.args.kind)) (new_node c.args.kind) c.requires.fresh

pub returns-in-Err-clause-change : goal.returns-in-Err-clause-change
returns-in-Err-clause-change c =
    let filled = at-ok c.fill.result (sym c.is_err.ensures.value ∙ c.if-is_err.false) c.fill.ensures.ok in
    let same : c.enter.new.directories ≡ with_node c.args.directories.now c.args.node (new_node c.args.kind) = c.in-Err.ensures.err ∙ filled in
    record {
      ok = tt;
      err = c.drop_inode-in-Err.ensures ∙ ap (λ (t : Tree). without_node t c.args.node) same
          ∙ emptied-again c.args.directories.now c.args.node (empty_node (kind_of_new c.args.kind)) (new_node c.args.kind) c.requires.fresh;
      allowed = tt;
      refused = ap (λ (t : Tree). room_error (with_entry t c.args.directory c.args.name.now c.args.node)) (sym filled) ∙ c.in-Err.ensures.refused;
    }
