use Rattle.std.proofs.Common.{◌≡◌}
use Rattle.pv_procs.specs.OfTree.Changes.{resized_tree}
use Rattle.pv_model.specs.Machine.{Tree}
use Rattle.pv_procs.specs.OfTree.Holding.{collected}
use Rattle.pv_calls_state.proofs.TreeChanges.{preserved-seen, ordered-seen, grown-outcome, preserved-content}
use Rattle.pv_calls_state.proofs.parts.Parts.resize.Goals as goal

abbrev change : (c : goal.After-cut) → Tree → Tree
change c t = resized_tree t c.args.node c.args.size

preserved : (c : goal.After-cut) → collected (change c c.args.self.now.tree) c.self.inside.tree.holds ≡ change c c.args.self.now.tree
preserved c =
    let i = c.self.inside in
    let t = c.args.self.now.tree in
    preserved-content t i.tree.holds (ordered-seen t c.requires.whole.tree.well_formed) (preserved-seen i.tree i.files i.processes c.args.self.now c.self.view_is c.self.invariant c.invariant-2.ensures c.invariant.ensures) c.args.node _

pub returns : goal.returns
returns c =
    let i = c.self.inside in
    grown-outcome i.tree i.files i.processes c.args.self.now c.self.view_is c.self.invariant c.invariant-2.ensures (change c) (preserved c) c.cut.result c.cut.new.self c.cut.ensures.change
