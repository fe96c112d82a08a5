use Rattle.std.proofs.Common.{◌∙◌, refl, sym}
use Rattle.pv_answers.proofs.RemovedDirectories.{directory-is}
use Rattle.pv_streams.proofs.WriterContracts.{writes_as}
use Rattle.pv_answers.proofs.reach.unnamed.write_directory.Goals as goal

pub returns : goal.returns
returns g c =
    let is = directory-is c.args.reacher.now _ refl (rw c.tree.ensures at (sym c.is_removed.ensures ∙ c.if-not-is_removed.false)) in
    writes_as is c.write_may.ensures
