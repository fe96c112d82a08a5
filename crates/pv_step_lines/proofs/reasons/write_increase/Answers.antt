use Rattle.pv_promises.specs.Pledge.{bits_of}
use Rattle.pv_streams.proofs.WriterContracts.{writes_as}
use Rattle.pv_step_lines.proofs.PledgeIncreases.{first-line}
use Rattle.pv_step_lines.proofs.reasons.write_increase.Goals as goal

pub returns-then-is_first_refused : goal.returns-then-is_first_refused
returns-then-is_first_refused g c =
    rw c.in-Some.is
    (writes_as (first-line c.args.pid c.args.pledge (bits_of c.in-Some.promises) (bits_of c.in-Some.execpromises) (bits_of c.promises.result) c.if-is_first_refused.ensures c.promises.ensures)
    c.write_value.ensures)
