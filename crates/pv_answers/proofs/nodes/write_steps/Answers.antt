use Rattle.std.proofs.Common.{◌≡◌, ◌+◌, Option, IsSome, ap, sym, subst}
use Rattle.pv_model.specs.Machine.{Bytes}
use Rattle.pv_answers.specs.Texts.{path_bytes}
use Rattle.pv_answers.proofs.NodePaths.{node-count, within-path}
use Rattle.pv_streams.proofs.WriterContracts.{writes_as}
use Rattle.pv_answers.proofs.nodes.write_steps.Goals as goal

pub write_above-requires-clause-path : goal.write_above-requires-clause-path
write_above-requires-clause-path g c =
    let t = c.args.tree.now.tree in
    let deep = node-count t c.sizes-depth.result.inodes c.sizes-depth.ensures.present.well_formed c.sizes-depth.ensures.inodes in
    subst (λ (o : Option Bytes). IsSome o) (sym (within-path t c.args.node (c.sizes-depth.result.inodes + 1) deep)) (sym c.if-not-has_path.ensures)

pub returns-then-is_directory : goal.returns-then-is_directory
returns-then-is_directory g c =
    let t = c.args.tree.now.tree in
    let deep = node-count t c.sizes-depth.result.inodes c.sizes-depth.ensures.present.well_formed c.sizes-depth.ensures.inodes in
    writes_as (ap path_bytes (within-path t c.args.node (c.sizes-depth.result.inodes + 1) deep)) c.write_above.ensures
