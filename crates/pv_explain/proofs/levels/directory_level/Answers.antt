use Rattle.std.proofs.Common.{◌∙◌, ◌<◌, sym, suc, length, arith}
use Rattle.pv_model.specs.Machine.{entries_of_table}
use Rattle.pv_explain.proofs.EntryLevels.{climbing-found, climbing-init, climbing-on}
use Rattle.pv_explain.proofs.levels.directory_level.Goals as goal

pub loop-level-init : goal.loop-level-init
loop-level-init c = climbing-init c.args.tree.now.tree (entries_of_table c.args.table.now.table) c.args.directory c.requires

pub returns-in-Some-clause-value : goal.returns-in-Some-clause-value
returns-in-Some-clause-value c =
    let sizes = c.sizes-level-end.ensures in
    let within : c.loop-level._level < suc (length c.args.tree.now.tree.nodes) = omega (arith, c.loop-level-test.true, c.loop-level.auto._level-end, sizes.inodes, sizes.present.well_formed.numbers) in
    sym
    (climbing-found c.args.tree.now.tree (entries_of_table c.args.table.now.table) c.args.directory c.loop-level._level c.loop-level.reached c.loop-level.invariant within c.in-Some.entry
    (sym c.directory_entry.ensures.value ∙ c.in-Some.is))

pub loop-level-preserved : goal.loop-level-preserved
loop-level-preserved c =
    let sizes = c.sizes-level-end.ensures in
    let within : c.loop-level._level < suc (length c.args.tree.now.tree.nodes) = omega (arith, c.loop-level-test.true, c.loop-level.auto._level-end, sizes.inodes, sizes.present.well_formed.numbers) in
    climbing-on c.args.tree.now.tree (entries_of_table c.args.table.now.table) c.args.directory c.loop-level._level c.loop-level.reached c.loop-level.invariant within
    sizes.present.well_formed c.in-Some-above.above (sym c.directory_entry.ensures.value ∙ c.in_default.is) (sym c.above.ensures ∙ c.in-Some-above.is)
