use Rattle.std.proofs.Common.{◌≡◌, ◌+◌, ◌<◌, ◌≤◌, None, Some, length, refl, ap, subst, ◌∙◌}
use Rattle.std.specs.Prelude.{OnOk, IfErr}
use Rattle.std.proofs.lemmas.Result.{on_ok_weaker, on_err_weaker}
use Rattle.pv_model.specs.Machine.{greatest_length, is_file, Tree, node_at}
use Rattle.pv_tree.specs.Changes.{overwritten}
use Rattle.pv_tree.specs.Holding.{HeldTree, held_with_tree}
use Rattle.pv_tree.specs.Rooms.{room_error}
use Rattle.pv_laws_trees.proofs.TreeBytes.{bytes-all}
use Rattle.pv_tree.proofs.ContentChanges.{IsAnswer, file-of, write-answer, write-ends}
use Rattle.pv_tree.proofs.UnaffectedLookups.{alike-along, alike-answered, alike-overwritten}
use Rattle.pv_tree.proofs.tree.Tree.write_at.Goals as goal
use Rattle.pv_tree.proofs.tree.Tree.write_at.Goals.{After-write_at}

-- the result of the call below, stated for the tree
answer : (c : After-write_at) → IsAnswer c.self.inside.directories c.write_at.new.self (overwritten c.self.inside.directories c.args.node c.args.at c.args.bytes.now) c.self.inside.parents c.self.inside.names c.self.inside.holds c.write_at.result
answer c =
    let file = file-of (node_at c.self.inside.directories c.args.node) (ap (λ h. is_file (node_at h.tree c.args.node)) c.self.view_is ∙ c.requires) in
    write-answer c.self.inside.directories c.write_at.new.self c.self.inside.parents c.self.inside.names c.self.inside.holds c.self.invariant c.args.node file.0 file.1 file.2 c.write_at.result
    c.args.at c.args.bytes.now (bytes-all c.args.bytes.now (λ i. (c.type_inv.bytes i).fits)) c.write_at.ensures.ok c.write_at.ensures.err c.write_at.ensures.too_big c.write_at.ensures.full

pub invariant_of-self : goal.invariant_of-self
invariant_of-self c = (answer c).tied

pub returns-clause-change : goal.returns-clause-change
returns-clause-change c = record {
  ok = on_ok_weaker c.write_at.result
      (λ same. ap (λ (t : Tree). record { tree = t; holds = c.self.inside.holds }) same ∙ ap (λ (h : HeldTree). held_with_tree h (overwritten h.tree c.args.node c.args.at c.args.bytes.now)) c.self.view_is) (answer c).ok;
  err = on_err_weaker c.write_at.result (λ same. ap (λ (t : Tree). record { tree = t; holds = c.self.inside.holds }) same ∙ c.self.view_is) c.write_at.ensures.err;
  allowed = subst (λ (t : Tree). OnOk c.write_at.result (room_error (overwritten t c.args.node c.args.at c.args.bytes.now) ≡ None)) (ap (λ h. h.tree) c.self.view_is) (answer c).allowed;
  refused = subst (λ (t : Tree). IfErr c.write_at.result (λ why. room_error (overwritten t c.args.node c.args.at c.args.bytes.now) ≡ Some why)) (ap (λ h. h.tree) c.self.view_is) (answer c).refused;
}

pub returns-clause-found : goal.returns-clause-found
returns-clause-found c =
    let t = c.self.inside.directories in
    alike-along t c.args.self.now.tree c.write_at.new.self c.write_at.new.self (ap (λ h. h.tree) c.self.view_is) refl
    (alike-answered t c.write_at.new.self (overwritten t c.args.node c.args.at c.args.bytes.now) c.write_at.result (answer c).ok c.write_at.ensures.err (alike-overwritten t c.args.node c.args.at c.args.bytes.now))

pub returns-clause-end : goal.returns-clause-end
returns-clause-end c =
    subst (λ (t : Tree). OnOk c.write_at.result (0 < length c.args.bytes.now → c.args.at + length c.args.bytes.now ≤ greatest_length t.version)) (ap (λ h. h.tree) c.self.view_is)
    (write-ends (greatest_length c.self.inside.directories.version) c.args.at c.args.bytes.now c.write_at.result c.write_at.ensures.too_big)
