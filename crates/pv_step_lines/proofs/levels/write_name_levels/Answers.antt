use Rattle.pv_streams.proofs.WriterContracts.{writes_as, writes_both, writes_failed, writes_longer}
use Rattle.pv_step_lines.proofs.AncestorLines.{name-bare, name-first, name-governed, none-found, some-found}
use Rattle.pv_step_lines.proofs.levels.write_name_levels.Goals as goal

pub returns-in_err-write_name_level : goal.returns-in_err-write_name_level
returns-in_err-write_name_level g c =
    let entry = c.own_name_entry-entry in
    writes_failed c.from_residual.ensures.0
    (writes_as (name-first c.args.basis.now c.args.asked c.args.directory c.args.name.now entry.result entry.ensures.value) (writes_longer _ c.in_err-write_name_level.ensures))

pub returns-then-is_some : goal.returns-then-is_some
returns-then-is_some g c =
    let entry = c.own_name_entry-entry in
    let some = some-found entry.result c.if-is_some.ensures in
    writes_as (name-governed c.args.basis.now c.args.asked c.args.directory c.args.name.now entry.result entry.ensures.value some.0 some.1) c.in_ok-write_name_level.ensures

pub returns-else-is_some : goal.returns-else-is_some
returns-else-is_some g c =
    let entry = c.own_name_entry-entry in
    writes_as (name-bare c.args.basis.now c.args.asked c.args.directory c.args.name.now entry.result entry.ensures.value (none-found entry.result c.if-is_some.ensures))
    (writes_both c.in_ok-write_name_level.ensures c.write_directory_levels.ensures)
