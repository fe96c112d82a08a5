use Rattle.std.proofs.Common.{[], ◌∷◌}
use Rattle.pv_model.specs.Machine.{call_of}
use Rattle.pv_trace.specs.Words.{promise_verdict_of}
use Rattle.pv_streams.proofs.WriterContracts.{writes_as, writes_both, writes_failed, writes_longer, writes_none}
use Rattle.pv_step_lines.specs.Parts.{promise_reason_by, why}
use Rattle.pv_step_lines.proofs.RemarkLines.{with-remark, with-remarks}
use Rattle.pv_step_lines.proofs.reasons.write_promise_part.Goals as goal

pub returns-in_default : goal.returns-in_default
returns-in_default g c = rw c.in_default.is writes_none

pub returns-in_err-write_line_on : goal.returns-in_err-write_line_on
returns-in_err-write_line_on g c =
    let remark = why c.args.pid (promise_reason_by c.args.pledge (call_of c.args.call) (promise_verdict_of c.in-Some.verdict)) in
    rw c.in-Some.is (writes_failed c.from_residual.ensures.0 (writes_as (with-remarks _ (remark ∷ [])) (writes_longer _ c.in_err-write_line_on.ensures)))

pub returns : goal.returns
returns g c =
    let remark = why c.args.pid (promise_reason_by c.args.pledge (call_of c.args.call) (promise_verdict_of c.in-Some.verdict)) in
    rw c.in-Some.is (writes_as (with-remark _ remark) (writes_both c.in_ok-write_line_on.ensures c.write_promise_line.ensures))
