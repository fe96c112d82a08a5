use Rattle.pv_streams.proofs.WriterContracts.{writes_as, writes_both, writes_failed, writes_longer}
use Rattle.pv_step_lines.proofs.RemarkLines.{with-remarks}
use Rattle.pv_step_lines.proofs.reasons.write_table_part.Goals as goal

pub returns-in_err-write_line_on : goal.returns-in_err-write_line_on
returns-in_err-write_line_on g c = writes_failed c.from_residual.ensures.0 (writes_as (with-remarks _ _) (writes_longer _ c.in_err-write_line_on.ensures))

pub returns : goal.returns
returns g c = writes_as (with-remarks _ _) (writes_both c.in_ok-write_line_on.ensures c.write_table_reasons.ensures)
