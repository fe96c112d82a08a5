use Rattle.pv_streams.proofs.WriterContracts.{writes_both, writes_failed, writes_longer}
use Rattle.pv_answers.proofs.numbers.write_following.Goals as goal

pub returns-in_err-write_whole : goal.returns-in_err-write_whole
returns-in_err-write_whole g c = writes_failed c.from_residual.ensures.0 (writes_longer _ c.in_err-write_whole.ensures)

pub returns : goal.returns
returns g c = writes_both c.in_ok-write_whole.ensures c.write_signed.ensures
