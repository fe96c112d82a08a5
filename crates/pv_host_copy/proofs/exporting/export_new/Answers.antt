use Rattle.pv_model.specs.Machine.{node_at}
use Rattle.pv_host_copy.specs.declared.target.TargetFault.TheVariants.{Memory}
use Rattle.pv_host_copy.proofs.ExportSteps.{new-refused, new-stops, new-unpreserved}
use Rattle.pv_host_copy.proofs.exporting.export_new.Goals as goal

pub returns-in_err-make_new : goal.returns-in_err-make_new
returns-in_err-make_new g c =
    let made = g.T.HostTarget.made c.args.target.now in
    let made' = g.T.HostTarget.made c.make_new.new.target in
    let o = node_at c.args.tree.now.tree c.args.node in
    let fault = c.in_err-make_new.field-0.0 in
    new-refused c.args.firsts.now.items c.args.firsts.now.items made made' c.args.path.now c.args.node o c.from_residual.result fault c.from_residual.ensures.1
    (new-stops c.args.firsts.now.items c.args.firsts.now.items made made' c.args.path.now c.args.node o fault c.in_err-make_new.ensures)

pub returns-in_err-path : goal.returns-in_err-path
returns-in_err-path g c =
    let made = g.T.HostTarget.made c.args.target.now in
    let made' = g.T.HostTarget.made c.make_new.new.target in
    let o = node_at c.args.tree.now.tree c.args.node in
    new-refused c.args.firsts.now.items c.args.firsts.now.items made made' c.args.path.now c.args.node o c.from_residual-in_err-path.result Memory c.from_residual-in_err-path.ensures.1
    (new-unpreserved c.args.firsts.now.items c.args.firsts.now.items made made' c.args.path.now c.args.node o tt c.in_ok-make_new.ensures)

pub returns-in_err-push : goal.returns-in_err-push
returns-in_err-push g c =
    let made = g.T.HostTarget.made c.args.target.now in
    let made' = g.T.HostTarget.made c.make_new.new.target in
    let o = node_at c.args.tree.now.tree c.args.node in
    new-refused c.args.firsts.now.items c.push.new.self.items made made' c.args.path.now c.args.node o c.from_residual-in_err-push.result Memory c.from_residual-in_err-push.ensures.1
    (new-unpreserved c.args.firsts.now.items c.push.new.self.items made made' c.args.path.now c.args.node o tt c.in_ok-make_new.ensures)
