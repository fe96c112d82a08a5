use Rattle.std.proofs.Common.{◌∙◌, sym}
use Rattle.pv_answers.proofs.AbsentNameEntries.{absent-is}
use Rattle.pv_streams.proofs.WriterContracts.{writes_as}
use Rattle.pv_answers.proofs.reach.unnamed.write_absent.Goals as goal

pub returns : goal.returns
returns g c =
    let is = absent-is c.args.reacher.now c.args.number c.target-target.result.now c.in-Name.dir c.in-Name.name c.target-target.ensures c.in-Name.is c.tree-tree.result.now.tree
    c.as_slice.result.now c.as_slice-2.result.now c.entry_for.result c.permitted.result c.from.result c.tree-tree.ensures c.as_slice.ensures.value
    (sym c.is_absent.ensures ∙ c.if-not-is_absent.false) c.as_slice-2.ensures.value c.entry_for.ensures.value c.permitted.ensures c.from.ensures in
    writes_as is c.write_may.ensures
