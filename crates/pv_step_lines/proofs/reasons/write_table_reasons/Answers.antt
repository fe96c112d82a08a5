use Rattle.std.specs.Option.{option_copied}
use Rattle.pv_model.specs.Machine.{call_of}
use Rattle.pv_streams.proofs.WriterContracts.{writes_as}
use Rattle.pv_step_lines.specs.Basis.{settings_of_basis, basis_table}
use Rattle.pv_step_lines.proofs.RemarkLines.{locked-line}
use Rattle.pv_step_lines.proofs.reasons.write_table_reasons.Goals as goal

pub returns-in_default-Locked : goal.returns-in_default-Locked
returns-in_default-Locked g c =
    let b = c.args.basis.now in
    rw c.in_default-Locked.is-1 (writes_as (locked-line b.tree.now.tree (basis_table b) (settings_of_basis b) b.pid (call_of c.args.call) (option_copied c.args.place)) c.write_locked.ensures)
