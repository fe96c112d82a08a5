use Rattle.pv_streams.proofs.WriterContracts.{writes_both, writes_failed, writes_longer}
use Rattle.pv_streams.proofs.fragments.Tuple2Fragment.write.Goals as goal

pub returns-in_err-write : goal.returns-in_err-write
returns-in_err-write g c = writes_failed c.from_residual.ensures.0 (writes_longer _ c.in_err-write.ensures)

pub returns : goal.returns
returns g c = writes_both c.in_ok-write.ensures c.write-2.ensures
