use Rattle.std.proofs.Common.{Some, ap, sym, subst, ◌∙◌}
use Rattle.std.specs.Prelude.{OnErr}
use Rattle.pv_model.specs.Machine.{link_node, with_node, is_node, is_link_text}
use Rattle.pv_dirs.specs.Trees.{empty_node, LacksRoomForTree}
use Rattle.pv_laws_trees.specs.Encoded.{are_bytes, has_bytes}
use Rattle.pv_tree.specs.Changes.{new_node, kind_of_new}
use Rattle.pv_tree.proofs.NodeCreation.{always, lacks-link, same-empty, bytes-other, filled}
use Rattle.pv_tree.proofs.tree.making.fill.Goals as goal

pub returns-in-Symlink-clause-full : goal.returns-in-Symlink-clause-full
returns-in-Symlink-clause-full c =
    rw c.in-Symlink.is
    (subst (λ text. OnErr c.write_at.result (LacksRoomForTree (with_node c.args.directories.now c.args.node (link_node text)))) c.as_read.ensures.same
    (lacks-link c.args.directories.now c.args.node c.as_read.result.now (c.requires.fresh ∙ ap (λ k. Some (empty_node (kind_of_new k))) c.in-Symlink.is)
    (ap is_link_text c.as_read.ensures.same ∙ sym (ap (λ k. is_node c.args.directories.now.version (new_node k)) c.in-Symlink.is) ∙ c.requires.text)
    c.write_at.result c.write_at.ensures.too_big c.write_at.ensures.full))

pub returns-in_default : goal.returns-in_default
returns-in_default c = record {
  ok = filled c.args.directories.now c.args.node (new_node c.args.kind) (c.requires.fresh ∙ ap Some (sym (same-empty c.args.kind c.in_default.not-Symlink)));
  err = tt;
  full = tt;
  bytes = bytes-other c.args.kind c.in_default.not-Symlink;
}

pub returns-in-Symlink-clause-bytes : goal.returns-in-Symlink-clause-bytes
returns-in-Symlink-clause-bytes c =
    always c.write_at.result (ap (λ k. has_bytes (new_node k)) c.in-Symlink.is ∙ ap are_bytes (sym c.as_read.ensures.same) ∙ c.as_read.ensures.bytes)
