use Rattle.pv_streams.proofs.WriterContracts.{writes_both, writes_failed, writes_longer}
use Rattle.pv_answers.proofs.reach.write_process.Goals as goal

pub returns-in_err-write_listed : goal.returns-in_err-write_listed
returns-in_err-write_listed g c = writes_failed c.from_residual.ensures.0 (writes_longer _ (writes_longer _ (writes_longer _ c.in_err-write_listed.ensures)))

pub returns-in_err-write_absents : goal.returns-in_err-write_absents
returns-in_err-write_absents g c = writes_failed c.from_residual-in_err-write_absents.ensures.0 (writes_longer _ (writes_longer _ (writes_both c.in_ok-write_listed.ensures c.in_err-write_absents.ensures)))

pub returns-in_err-write_directory : goal.returns-in_err-write_directory
returns-in_err-write_directory g c = writes_failed c.from_residual-in_err-write_directory.ensures.0 (writes_longer _ (writes_both (writes_both c.in_ok-write_listed.ensures c.in_ok-write_absents.ensures) c.in_err-write_directory.ensures))

pub returns : goal.returns
returns g c = writes_both (writes_both (writes_both c.in_ok-write_listed.ensures c.in_ok-write_absents.ensures) c.in_ok-write_directory.ensures) c.write_descriptors.ensures
