use Rattle.std.proofs.Common.{sym}
use Rattle.std.specs.FinMap.Entries.{find}
use Rattle.std.specs.Ordering.{nat_cmp}
use Rattle.pv_model.specs.Machine.{text_line}
use Rattle.pv_answers.proofs.LocationLines.{ended-line-is}
use Rattle.pv_streams.proofs.WriterContracts.{writes_as}
use Rattle.pv_answers.proofs.location.write_location.Goals as goal

pub returns : goal.returns
unfolding text_line
returns g c = writes_as (ended-line-is c.args.pid (find nat_cmp c.args.pid c.args.parts.now.processes) _ _ (sym (rw c.processes-processes.ensures at c.in-Some.ensures))) c.write.ensures
