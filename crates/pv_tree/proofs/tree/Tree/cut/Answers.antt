use Rattle.std.proofs.Common.{◌≡◌, ◌≤◌, None, Some, length, refl, ap, sym, subst, ◌∙◌}
use Rattle.std.specs.Prelude.{OnOk, IfErr}
use Rattle.std.proofs.lemmas.Result.{on_ok_weaker, on_err_weaker}
use Rattle.pv_model.specs.Machine.{is_file, Tree, node_at}
use Rattle.pv_dirs.specs.Trees.{node_bytes_at}
use Rattle.pv_tree.specs.Changes.{resized_tree}
use Rattle.pv_tree.specs.Holding.{HeldTree, held_with_tree}
use Rattle.pv_tree.specs.Rooms.{room_error}
use Rattle.pv_tree.proofs.ContentChanges.{IsAnswer, file-of, not-refused, resize-answer, resize-shorter}
use Rattle.pv_tree.proofs.UnaffectedLookups.{alike-along, alike-answered, alike-resized_tree}
use Rattle.pv_tree.proofs.tree.Tree.cut.Goals as goal
use Rattle.pv_tree.proofs.tree.Tree.cut.Goals.{After-cut}

-- the result of the call below, stated for the tree
answer : (c : After-cut) → IsAnswer c.self.inside.directories c.cut.new.self (resized_tree c.self.inside.directories c.args.node c.args.size) c.self.inside.parents c.self.inside.names c.self.inside.holds c.cut.result
answer c =
    let file = file-of (node_at c.self.inside.directories c.args.node) (ap (λ h. is_file (node_at h.tree c.args.node)) c.self.view_is ∙ c.requires) in
    resize-answer c.self.inside.directories c.cut.new.self c.self.inside.parents c.self.inside.names c.self.inside.holds c.self.invariant c.args.node file.0 file.1 file.2 c.cut.result
    c.args.size c.cut.ensures.ok c.cut.ensures.err c.cut.ensures.too_big c.cut.ensures.full

pub invariant_of-self : goal.invariant_of-self
invariant_of-self c = (answer c).tied

pub returns-clause-change : goal.returns-clause-change
returns-clause-change c = record {
  ok = on_ok_weaker c.cut.result
      (λ same. ap (λ (t : Tree). record { tree = t; holds = c.self.inside.holds }) same ∙ ap (λ (h : HeldTree). held_with_tree h (resized_tree h.tree c.args.node c.args.size)) c.self.view_is) (answer c).ok;
  err = on_err_weaker c.cut.result (λ same. ap (λ (t : Tree). record { tree = t; holds = c.self.inside.holds }) same ∙ c.self.view_is) c.cut.ensures.err;
  allowed = subst (λ (t : Tree). OnOk c.cut.result (room_error (resized_tree t c.args.node c.args.size) ≡ None)) (ap (λ h. h.tree) c.self.view_is) (answer c).allowed;
  refused = subst (λ (t : Tree). IfErr c.cut.result (λ why. room_error (resized_tree t c.args.node c.args.size) ≡ Some why)) (ap (λ h. h.tree) c.self.view_is) (answer c).refused;
}

pub returns-clause-found : goal.returns-clause-found
returns-clause-found c =
    let t = c.self.inside.directories in
    alike-along t c.args.self.now.tree c.cut.new.self c.cut.new.self (ap (λ h. h.tree) c.self.view_is) refl
    (alike-answered t c.cut.new.self (resized_tree t c.args.node c.args.size) c.cut.result (answer c).ok c.cut.ensures.err (alike-resized_tree t c.args.node c.args.size))

pub returns-clause-shorter : goal.returns-clause-shorter
returns-clause-shorter c = λ few.
    let t = c.self.inside.directories in
    let file = file-of (node_at t c.args.node) (ap (λ h. is_file (node_at h.tree c.args.node)) c.self.view_is ∙ c.requires) in
    not-refused c.cut.result (room_error (resized_tree t c.args.node c.args.size)) (answer c).refused
    (resize-shorter t c.cut.new.self c.self.inside.parents c.self.inside.names c.self.inside.holds c.self.invariant c.args.node file.0 file.1 file.2 c.cut.result c.args.size
    (subst (λ (u : Tree). c.args.size ≤ length (node_bytes_at u c.args.node)) (sym (ap (λ h. h.tree) c.self.view_is)) few))
