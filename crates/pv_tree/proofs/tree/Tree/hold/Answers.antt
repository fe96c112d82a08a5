use Rattle.std.proofs.Common.{is_some, ap, ◌+◌, ◌∙◌}
use Rattle.std.specs.Prelude.{slice_index}
use Rattle.pv_model.specs.Machine.{node_at}
use Rattle.pv_tree.proofs.CollectionCounts.{below-seen, read-same, place, tied-more}
use Rattle.pv_tree.proofs.tree.Tree.hold.Goals as goal

pub bounds-self-inside-node : goal.bounds-self-inside-node
bounds-self-inside-node c =
    below-seen c.self.inside.directories c.args.self.now.tree _ _ _ c.self.invariant (ap (λ h. h.tree) c.self.view_is) c.args.node c.requires.node

pub bounds-self-inside-node-2 : goal.bounds-self-inside-node-2
bounds-self-inside-node-2 c =
    below-seen c.self.inside.directories c.args.self.now.tree _ _ _ c.self.invariant (ap (λ h. h.tree) c.self.view_is) c.args.node c.requires.node

pub invariant_of-self : goal.invariant_of-self
invariant_of-self c =
    tied-more c.self.inside.directories c.self.inside.parents c.self.inside.names c.self.inside.holds c.self.invariant c.args.node
    (ap (λ h. is_some (node_at h.tree c.args.node)) c.self.view_is ∙ c.requires.node)

pub returns-clause-more : goal.returns-clause-more
returns-clause-more c =
    let there = ap (λ h. is_some (node_at h.tree c.args.node)) c.self.view_is ∙ c.requires.node in
    read-same c.self.inside.holds c.args.node (slice_index c.self.inside.holds c.args.node + 1)
    (place c.self.inside.directories c.self.inside.parents c.self.inside.names c.self.inside.holds c.self.invariant c.args.node there)
    ∙ ap (λ h. slice_index h.holds c.args.node + 1) c.self.view_is
