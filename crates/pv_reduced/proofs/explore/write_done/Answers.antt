use Rattle.std.proofs.Common.{append-nil, sym}
use Rattle.pv_streams.proofs.WriterContracts.{writes_as, writes_both, writes_failed, writes_longer}
use Rattle.pv_reduced.proofs.explore.write_done.Goals as goal

pub returns-in_err-write_classes : goal.returns-in_err-write_classes
returns-in_err-write_classes g c = writes_failed c.from_residual.ensures.0 (writes_longer _ c.in_err-write_classes.ensures)

pub returns : goal.returns
returns g c = writes_both c.in_ok-write_classes.ensures (writes_as (sym (append-nil _)) c.write_endings.ensures)
