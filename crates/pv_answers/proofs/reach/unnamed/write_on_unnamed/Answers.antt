use Rattle.std.proofs.Common.{◌∙◌, sym}
use Rattle.pv_answers.specs.Reaching.{reacher_state}
use Rattle.pv_answers.proofs.RemovedDirectories.{pathless-removed, unnamed-is}
use Rattle.pv_streams.proofs.WriterContracts.{writes_as}
use Rattle.pv_answers.proofs.reach.unnamed.write_on_unnamed.Goals as goal

pub returns-then-is_directory : goal.returns-then-is_directory
returns-then-is_directory g c =
    let is = unnamed-is c.args.reacher.now c.args.node c.args.descriptor.number c.args.descriptor.mode (rw c.tree-tree.ensures at (sym c.is_directory.ensures ∙ c.if-is_directory.true)) (pathless-removed (reacher_state c.args.reacher.now).tree c.tree-tree.result.now.tree c.tree-tree.ensures c.sizes.ensures.present.well_formed c.args.node c.requires) in
    writes_as is c.write_may.ensures
