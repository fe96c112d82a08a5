use Rattle.std.proofs.Common.{ap}
use Rattle.pv_tree.proofs.CollectionCounts.{directory-below-seen, parent-none, stored-directory}
use Rattle.pv_tree.proofs.tree.Tree.parent.Goals as goal

pub bounds-self-inside-directory : goal.bounds-self-inside-directory
bounds-self-inside-directory c =
    directory-below-seen c.self.inside.directories c.args.self.now.tree _ _ _ c.self.invariant (ap (λ h. h.tree) c.self.view_is) c.args.directory c.requires

pub returns-then-above-eq0-clause-value : goal.returns-then-above-eq0-clause-value
returns-then-above-eq0-clause-value c =
    parent-none c.self.inside.directories c.args.self.now.tree _ _ _ c.self.invariant (ap (λ h. h.tree) c.self.view_is) c.args.directory c.requires c.if-above-eq0.true

pub returns-else-above-eq0-clause-directory : goal.returns-else-above-eq0-clause-directory
returns-else-above-eq0-clause-directory c =
    stored-directory c.self.inside.directories c.args.self.now.tree _ _ _ c.self.invariant (ap (λ h. h.tree) c.self.view_is) c.args.directory c.requires c.if-above-eq0.false
