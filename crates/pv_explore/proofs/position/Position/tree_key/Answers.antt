use Rattle.std.proofs.Common.{◌≡◌, ◌∙◌, ap, subst, sym, true}
use Rattle.pv_explore.specs.Plan.{tree_key}
use Rattle.pv_explore.proofs.LiveNumbers.{end-key}
use Rattle.pv_model.specs.Machine.{has_ended, named_tree, State}
use Rattle.pv_explore.proofs.position.Position.tree_key.Goals as goal

pub returns : goal.returns
returns c =
    let s = c.self.inside.session in
    subst (λ (t : State). c.push_tree.new.key.items ≡ tree_key (named_tree t.tree)) c.self.view_is
    (end-key s c.tree.result.now.tree _ _ c.parts.ensures.whole (subst (λ (t : State). has_ended t ≡ true) (sym c.self.view_is) c.requires) (c.tree.ensures ∙ ap (λ (t : State). t.tree) c.parts.ensures.value) c.new-key.ensures.items c.in_ok-push_tree.ensures)
