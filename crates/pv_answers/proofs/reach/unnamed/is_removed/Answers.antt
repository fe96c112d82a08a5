use Rattle.std.proofs.Common.{◌∙◌, not, ap, refl}
use Rattle.pv_answers.proofs.RemovedDirectories.{removed-by}
use Rattle.pv_answers.proofs.reach.unnamed.is_removed.Goals as goal

pub returns : goal.returns
returns c = ap not c.has_path.ensures ∙ removed-by c.args.tree.now.tree c.args.tree.now.tree refl c.sizes.ensures.present.well_formed c.args.directory
