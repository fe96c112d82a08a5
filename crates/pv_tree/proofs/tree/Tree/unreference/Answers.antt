use Rattle.std.proofs.Common.{◌≡◌, ◌<◌, subst, ap, sym, ◌∙◌}
use Rattle.std.specs.Prelude.{slice_index}
use Rattle.pv_model.specs.Machine.{Tree}
use Rattle.pv_tree.specs.Holding.{held_less, referenced_numbers, collected}
use Rattle.pv_tree.specs.Present.{IsTied}
use Rattle.pv_tree.proofs.CollectionCounts.{without_if_unreferenced-less, counted-less, collected-tied}
use Rattle.pv_laws_trees.proofs.LookupsAfterChanges.{alike-preserved}
use Rattle.pv_tree.proofs.UnaffectedLookups.{alike-along}
use Rattle.pv_tree.proofs.tree.Tree.unreference.Goals as goal
use Rattle.pv_tree.proofs.tree.Tree.unreference.Goals.{After-settle}

held : (c : After-settle) → 0 < slice_index c.self.inside.holds c.args.node
held c = subst (λ n. 0 < n) (sym (ap (λ h. slice_index h.holds c.args.node) c.self.view_is)) c.requires

gone : (c : After-settle) → c.settle.new.directories ≡ collected c.self.inside.directories (held_less c.self.inside.holds c.args.node)
gone c = c.settle.ensures ∙ without_if_unreferenced-less c.self.inside.directories c.self.inside.parents c.self.inside.names c.self.inside.holds c.self.invariant c.args.node (held c)

pub invariant_of-self : goal.invariant_of-self
invariant_of-self c =
    subst (λ (t : Tree). IsTied t c.self.inside.parents c.self.inside.names (held_less c.self.inside.holds c.args.node)) (sym (gone c))
    (collected-tied c.self.inside.directories c.self.inside.parents c.self.inside.names (held_less c.self.inside.holds c.args.node)
    (counted-less c.self.inside.directories c.self.inside.parents c.self.inside.names c.self.inside.holds c.self.invariant c.args.node (held c)))

pub returns-clause-tree : goal.returns-clause-tree
returns-clause-tree c = gone c ∙ ap (λ h. collected h.tree (held_less h.holds c.args.node)) c.self.view_is

pub returns-clause-found : goal.returns-clause-found
returns-clause-found c =
    let t = c.self.inside.directories in
    let holds = held_less c.self.inside.holds c.args.node in
    alike-along t c.args.self.now.tree (collected t holds) c.settle.new.directories (ap (λ h. h.tree) c.self.view_is) (gone c)
    (alike-preserved t c.self.invariant.counted.well_formed (referenced_numbers holds))
