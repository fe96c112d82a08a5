use Rattle.pv_model.specs.Machine.{Tree, with_entry}
use Rattle.pv_calls_state.proofs.TreeChanges.{preserved-seen, ordered-seen, grown-outcome, preserved-entry}
use Rattle.pv_calls_state.proofs.parts.Parts.link.Goals as goal

pub returns : goal.returns
returns c =
    let i = c.self.inside in
    let t = c.args.self.now.tree in
    let preserved = preserved-entry t i.tree.holds (ordered-seen t c.requires.whole.tree.well_formed) (preserved-seen i.tree i.files i.processes c.args.self.now c.self.view_is c.self.invariant c.invariant-2.ensures c.invariant.ensures) c.args.directory c.args.name.now c.args.node c.requires.directory.0 c.requires.absent in
    grown-outcome i.tree i.files i.processes c.args.self.now c.self.view_is c.self.invariant c.invariant-2.ensures (λ (u : Tree). with_entry u c.args.directory c.args.name.now c.args.node) preserved c.link.result c.link.new.self c.link.ensures.change
