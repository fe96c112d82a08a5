use Rattle.std.proofs.Common.{◌∙◌, ◌<◌, ◌≤◌, sym, suc, length, arith}
use Rattle.pv_streams.proofs.WriterContracts.{writes_failed}
use Rattle.pv_step_lines.proofs.AncestorLines.{climbing-init, climbing-on, climbing-governed, climbing-top, climbing-end, climbing-begun, none-found, some-found}
use Rattle.pv_step_lines.proofs.levels.write_directory_levels.Goals as goal

pub loop-level-init : goal.loop-level-init
loop-level-init g c = climbing-init c.args.basis.now c.args.asked c.args.directory c.args.out.now c.requires

pub returns-in_err-write_directory_level : goal.returns-in_err-write_directory_level
returns-in_err-write_directory_level g c =
    let sizes = c.sizes-level-end.ensures in
    let within : c.loop-level._level < suc (length c.args.basis.now.tree.now.tree.nodes) = omega (arith, c.loop-level-test.true, c.loop-level.auto._level-end, sizes.inodes, sizes.present.well_formed.numbers) in
    let entry = c.directory_entry-entry in
    writes_failed c.from_residual.ensures.0
    (climbing-begun c.args.basis.now c.args.asked c.args.directory c.loop-level._level c.loop-level.reached c.loop-level.invariant within entry.result entry.ensures.value
    c.in_err-write_directory_level.ensures)

pub returns-then-is_some : goal.returns-then-is_some
returns-then-is_some g c =
    let sizes = c.sizes-level-end.ensures in
    let within : c.loop-level._level < suc (length c.args.basis.now.tree.now.tree.nodes) = omega (arith, c.loop-level-test.true, c.loop-level.auto._level-end, sizes.inodes, sizes.present.well_formed.numbers) in
    let entry = c.directory_entry-entry in
    let some = some-found entry.result c.if-is_some.ensures in
    climbing-governed c.args.basis.now c.args.asked c.args.directory c.loop-level._level c.loop-level.reached c.loop-level.invariant within entry.result entry.ensures.value some.0 some.1
    c.in_ok-write_directory_level.ensures

pub returns-in_default : goal.returns-in_default
returns-in_default g c =
    let sizes = c.sizes-level-end.ensures in
    let within : c.loop-level._level < suc (length c.args.basis.now.tree.now.tree.nodes) = omega (arith, c.loop-level-test.true, c.loop-level.auto._level-end, sizes.inodes, sizes.present.well_formed.numbers) in
    let entry = c.directory_entry-entry in
    climbing-top c.args.basis.now c.args.asked c.args.directory c.loop-level._level c.loop-level.reached c.loop-level.invariant within entry.result entry.ensures.value
    (none-found entry.result c.if-is_some.ensures) (sym c.above.ensures ∙ c.in_default.is) c.in_ok-write_directory_level.ensures

pub loop-level-preserved : goal.loop-level-preserved
loop-level-preserved g c =
    let sizes = c.sizes-level-end.ensures in
    let within : c.loop-level._level < suc (length c.args.basis.now.tree.now.tree.nodes) = omega (arith, c.loop-level-test.true, c.loop-level.auto._level-end, sizes.inodes, sizes.present.well_formed.numbers) in
    let entry = c.directory_entry-entry in
    climbing-on c.args.basis.now c.args.asked c.args.directory c.loop-level._level c.loop-level.reached c.loop-level.invariant within entry.result entry.ensures.value
    c.sizes-level-end.ensures.present.well_formed c.in-Some.above (none-found entry.result c.if-is_some.ensures) (sym c.above.ensures ∙ c.in-Some.is) c.in_ok-write_directory_level.ensures

pub returns : goal.returns
returns g c =
    let sizes = c.sizes-level-end.ensures in
    let past : suc (length c.args.basis.now.tree.now.tree.nodes) ≤ c.loop-level._level = omega (arith, c.loop-level-test.false, c.loop-level.auto._level-end, sizes.inodes, sizes.present.well_formed.numbers) in
    climbing-end c.args.basis.now c.args.asked c.args.directory c.loop-level._level c.loop-level.reached c.loop-level.invariant past
