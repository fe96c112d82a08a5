use Rattle.std.proofs.Common.{sym}
use Rattle.pv_tree.proofs.LeastNames.{least-removed, least-above, named-above}
use Rattle.pv_tree.proofs.tree.Tree.least_name.Goals as goal

pub returns-in_default : goal.returns-in_default
returns-in_default c =
    least-removed c.args.self.now.tree c.invariant.ensures.well_formed c.args.node (sym c.in_default.ensures.value)

pub returns-in-Some-next_name_of : goal.returns-in-Some-next_name_of
returns-in-Some-next_name_of c =
    least-above c.args.self.now.tree c.invariant.ensures.well_formed c.args.node c.in-Some.above c.in-Some-next_name_of.name (sym c.if-not-is_directory.ensures) c.in-Some-next_name_of.ensures

pub returns-in-None : goal.returns-in-None
returns-in-None c =
    absurd (named-above c.args.self.now.tree c.invariant.ensures.well_formed c.args.node c.in-Some.above c.if-node-eq-ROOT.false (sym c.in-Some.ensures.value) c.in-None.ensures)
