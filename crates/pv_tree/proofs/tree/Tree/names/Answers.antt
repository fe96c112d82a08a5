use Rattle.std.proofs.Common.{ap}
use Rattle.pv_tree.proofs.CollectionCounts.{below-seen}
use Rattle.pv_tree.proofs.tree.Tree.names.Goals as goal

pub bounds-self-inside-node : goal.bounds-self-inside-node
bounds-self-inside-node c =
    below-seen c.self.inside.directories c.args.self.now.tree _ _ _ c.self.invariant (ap (λ h. h.tree) c.self.view_is) c.args.node c.requires
