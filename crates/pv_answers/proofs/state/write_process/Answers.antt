use Rattle.pv_streams.proofs.WriterContracts.{writes_both, writes_failed, writes_longer}
use Rattle.pv_answers.proofs.state.write_process.Goals as goal

pub returns-in_err-write_location : goal.returns-in_err-write_location
returns-in_err-write_location g c = writes_failed c.from_residual.ensures.0 (writes_longer _ c.in_err-write_location.ensures)

pub returns : goal.returns
returns g c = writes_both c.in_ok-write_location.ensures c.write_held.ensures
