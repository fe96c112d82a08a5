use Rattle.std.proofs.Common.{◌+◌, ◌∙◌, ap, drop, refl, Some}
use Rattle.std.proofs.Math.ListN.{drop_of_length-le}
use Rattle.pv_host_copy.proofs.ExportSteps.{path-found, path-step, path-none}
use Rattle.pv_host_copy.proofs.FirstPaths.{next_first}
use Rattle.pv_host_copy.proofs.exporting.first_path.Goals as goal

pub loop-first-init : goal.loop-first-init
loop-first-init c = refl

pub returns-then-first-node : goal.returns-then-first-node
returns-then-first-node c =
    let fs = c.args.firsts.now in
    let i = c.loop-first.first-index in
    let front = next_first fs i c.first-item.result c.loop-first-test.true c.first-item.is in
    ap Some c.as_slice.ensures.value ∙ path-found c.args.node (drop i fs) (drop (i + 1) fs) fs c.first-item.result front c.loop-first.invariant c.if-first-node.true

pub loop-first-preserved : goal.loop-first-preserved
loop-first-preserved c =
    let fs = c.args.firsts.now in
    let i = c.loop-first.first-index in
    let front = next_first fs i c.first-item.result c.loop-first-test.true c.first-item.is in
    path-step c.args.node (drop i fs) (drop (i + 1) fs) fs c.first-item.result front c.loop-first.invariant c.if-first-node.false

pub returns : goal.returns
returns c = path-none c.args.node (drop c.loop-first.first-index c.args.firsts.now) c.args.firsts.now (drop_of_length-le c.args.firsts.now c.loop-first-test.false) c.loop-first.invariant
