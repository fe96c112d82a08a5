use Rattle.std.proofs.Common.{◌≡◌}
use Rattle.std.proofs.lemmas.Result.{err_from_is_err_and}
use Rattle.pv_model.specs.Machine.{Tree, with_new_node}
use Rattle.pv_procs.specs.OfTree.Changes.{new_node}
use Rattle.pv_procs.specs.OfTree.Holding.{collected}
use Rattle.pv_calls_state.proofs.TreeChanges.{preserved-seen, preserved-made, grown-ok, grown-err}
use Rattle.pv_calls_state.proofs.parts.Parts.make.Goals as goal
use Rattle.pv_calls_state.proofs.parts.Parts.make.Goals.{After-make}

abbrev change : (c : After-make) → Tree → Tree
change c t = with_new_node t c.args.directory c.args.name.now (new_node c.args.kind)

preserved : (c : After-make) → collected (change c c.args.self.now.tree) c.self.inside.tree.holds ≡ change c c.args.self.now.tree
preserved c =
    let i = c.self.inside in
    preserved-made c.args.self.now.tree i.tree.holds c.requires.whole.tree.well_formed (preserved-seen i.tree i.files i.processes c.args.self.now c.self.view_is c.self.invariant c.invariant-2.ensures c.invariant.ensures) c.args.directory c.args.name.now c.args.kind c.requires.directory.0 c.requires.absent

pub returns : goal.returns
returns c =
    let i = c.self.inside in
    let w = (goal.at.returns c).After-make in
    grown-ok i.tree i.files i.processes c.args.self.now c.self.view_is c.self.invariant c.invariant-2.ensures (change w) (preserved w) c.in_ok-_node._node tt c.make.new.self c.in_ok-_node.ensures.change

pub returns-in_err-_node : goal.returns-in_err-_node
returns-in_err-_node c =
    let i = c.self.inside in
    let w = (goal.at.returns-in_err-_node c).After-make in
    let p = err_from_is_err_and c.from_residual.result c.from_residual.ensures.1 in
    rw (p.1, p.2)
    (grown-err i.tree i.files i.processes c.args.self.now c.self.view_is c.self.invariant c.invariant-2.ensures (change w) (preserved w) c.in_err-_node.field-0.0 c.make.new.self c.in_err-_node.ensures.change)
