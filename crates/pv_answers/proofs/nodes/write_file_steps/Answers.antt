use Rattle.std.proofs.Common.{◌+◌, ap, sym}
use Rattle.pv_answers.proofs.NodePaths.{file-named, file-step, node-count}
use Rattle.pv_streams.proofs.WriterContracts.{writes_as, writes_both, writes_failed, writes_longer}
use Rattle.pv_answers.proofs.nodes.write_file_steps.Goals as goal

pub unreachable-requires : goal.unreachable-requires
unreachable-requires g c =
    file-named c.args.tree.now.tree c.sizes-depth.ensures.present.well_formed c.args.node c.requires.file c.requires.path c.in_default.ensures

pub write_above-requires-clause-directory : goal.write_above-requires-clause-directory
write_above-requires-clause-directory g c =
    let t = c.args.tree.now.tree in
    let deep = node-count t c.sizes-depth.result.inodes c.sizes-depth.ensures.present.well_formed c.sizes-depth.ensures.inodes in
    (file-step t c.sizes-depth.ensures.present.well_formed c.args.node c.in-Some.directory c.in-Some.name (c.sizes-depth.result.inodes + 1) deep c.requires.file c.requires.path (sym c.in-Some.ensures)).directory

pub write_above-requires-clause-path : goal.write_above-requires-clause-path
write_above-requires-clause-path g c =
    let t = c.args.tree.now.tree in
    let deep = node-count t c.sizes-depth.result.inodes c.sizes-depth.ensures.present.well_formed c.sizes-depth.ensures.inodes in
    (file-step t c.sizes-depth.ensures.present.well_formed c.args.node c.in-Some.directory c.in-Some.name (c.sizes-depth.result.inodes + 1) deep c.requires.file c.requires.path (sym c.in-Some.ensures)).above

pub returns-in_err-write_above : goal.returns-in_err-write_above
returns-in_err-write_above g c =
    let t = c.args.tree.now.tree in
    let deep = node-count t c.sizes-depth.result.inodes c.sizes-depth.ensures.present.well_formed c.sizes-depth.ensures.inodes in
    let step = file-step t c.sizes-depth.ensures.present.well_formed c.args.node c.in-Some.directory c.in-Some.name (c.sizes-depth.result.inodes + 1) deep c.requires.file c.requires.path (sym c.in-Some.ensures) in
    writes_failed c.from_residual.ensures.0 (writes_as step.bytes (writes_longer _ c.in_err-write_above.ensures))

pub returns : goal.returns
returns g c =
    let t = c.args.tree.now.tree in
    let deep = node-count t c.sizes-depth.result.inodes c.sizes-depth.ensures.present.well_formed c.sizes-depth.ensures.inodes in
    let step = file-step t c.sizes-depth.ensures.present.well_formed c.args.node c.in-Some.directory c.in-Some.name (c.sizes-depth.result.inodes + 1) deep c.requires.file c.requires.path (sym c.in-Some.ensures) in
    writes_as step.bytes (writes_both c.in_ok-write_above.ensures (rw c.as_slice.ensures.value at c.write.ensures))
