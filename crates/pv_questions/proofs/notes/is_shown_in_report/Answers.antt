use Rattle.std.proofs.Common.{◌∙◌, ◌+◌, Some, ap, arith, sym}
use Rattle.pv_model.specs.Machine.{State, Tree, audit_node}
use Rattle.pv_model_questions.specs.Notes.{shows_lock_reason}
use Rattle.pv_questions.proofs.NumbersBelow.{any-at}
use Rattle.pv_questions.proofs.notes.is_shown_in_report.Goals as goal

pub returns-then-is_shown : goal.returns-then-is_shown
returns-then-is_shown c =
    let s = c.args.session.now in
    let inodes = ap (λ (t : Tree). t.inodes) (c.tree.ensures ∙ ap (λ (s : State). s.tree) c.parts.ensures.value) in
    let found = sym (ap (shows_lock_reason c.args.every c.args.pid) c.audit_node.ensures.found) ∙ sym c.is_shown.ensures ∙ c.if-is_shown.true in
    sym (any-at (λ n. shows_lock_reason c.args.every c.args.pid (audit_node s (Some n))) c.loop-node.node (s.tree.inodes + 1) (omega (arith, c.loop-node-test.true, c.sizes-node-end.ensures.inodes, inodes)) found)
