use Rattle.std.proofs.Common.{sym, ◌∙◌}
use Rattle.pv_image_manifest.proofs.Containers.{entry-appears}
use Rattle.pv_image_manifest.proofs.adding.enter.Goals as goal

pub returns-then-is_directory-clause-appears : goal.returns-then-is_directory-clause-appears
returns-then-is_directory-clause-appears c =
    entry-appears c.args.tree.now.tree c.invariant.ensures.well_formed c.args.directory c.args.name.now c.in_ok-number.number
    (sym c.is_directory.ensures ∙ c.if-is_directory.true) (sym c.in_ok-number.ensures)
