use Rattle.pv_streams.proofs.WriterContracts.{writes_both, writes_failed, writes_longer}
use Rattle.pv_streams.proofs.fragments.Tuple6Fragment.write.Goals as goal

pub returns-in_err-write : goal.returns-in_err-write
returns-in_err-write g c = writes_failed c.from_residual.ensures.0 (writes_longer _ (writes_longer _ (writes_longer _ (writes_longer _ (writes_longer _ c.in_err-write.ensures)))))

pub returns-in_err-write-2 : goal.returns-in_err-write-2
returns-in_err-write-2 g c = writes_failed c.from_residual-in_err-write-2.ensures.0 (writes_longer _ (writes_longer _ (writes_longer _ (writes_longer _ (writes_both c.in_ok-write.ensures c.in_err-write-2.ensures)))))

pub returns-in_err-write-3 : goal.returns-in_err-write-3
returns-in_err-write-3 g c = writes_failed c.from_residual-in_err-write-3.ensures.0 (writes_longer _ (writes_longer _ (writes_longer _ (writes_both (writes_both c.in_ok-write.ensures c.in_ok-write-2.ensures) c.in_err-write-3.ensures))))

pub returns-in_err-write-4 : goal.returns-in_err-write-4
returns-in_err-write-4 g c = writes_failed c.from_residual-in_err-write-4.ensures.0 (writes_longer _ (writes_longer _ (writes_both (writes_both (writes_both c.in_ok-write.ensures c.in_ok-write-2.ensures) c.in_ok-write-3.ensures) c.in_err-write-4.ensures)))

pub returns-in_err-write-5 : goal.returns-in_err-write-5
returns-in_err-write-5 g c = writes_failed c.from_residual-in_err-write-5.ensures.0 (writes_longer _ (writes_both (writes_both (writes_both (writes_both c.in_ok-write.ensures c.in_ok-write-2.ensures) c.in_ok-write-3.ensures) c.in_ok-write-4.ensures) c.in_err-write-5.ensures))

pub returns : goal.returns
returns g c = writes_both (writes_both (writes_both (writes_both (writes_both c.in_ok-write.ensures c.in_ok-write-2.ensures) c.in_ok-write-3.ensures) c.in_ok-write-4.ensures) c.in_ok-write-5.ensures) c.write-6.ensures
