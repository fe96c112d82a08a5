use Rattle.std.specs.FinMap.Entries.{find}
use Rattle.std.specs.Ordering.{nat_cmp}
use Rattle.pv_model.specs.Machine.{text_line}
use Rattle.pv_answers.proofs.LocationLines.{live-lines-are}
use Rattle.pv_streams.proofs.WriterContracts.{writes_as, writes_both, writes_failed, writes_longer}
use Rattle.pv_answers.proofs.location.write_live_lines.Goals as goal

pub returns-in_err-write_front : goal.returns-in_err-write_front
unfolding text_line
returns-in_err-write_front g c = writes_failed c.from_residual.ensures.0 (writes_as (live-lines-are c.args.pid (find nat_cmp c.args.pid c.args.parts.now.processes) c.requires) (writes_longer _ (writes_longer _ (writes_longer _ (writes_longer _ (writes_longer _ c.in_err-write_front.ensures))))))

pub returns-in_err-write_live : goal.returns-in_err-write_live
unfolding text_line
returns-in_err-write_live g c = writes_failed c.from_residual-in_err-write_live.ensures.0 (writes_as (live-lines-are c.args.pid (find nat_cmp c.args.pid c.args.parts.now.processes) c.requires) (writes_longer _ (writes_longer _ (writes_longer _ (writes_longer _ (writes_both c.in_ok-write_front.ensures c.in_err-write_live.ensures))))))

pub returns-in_err-write_whole : goal.returns-in_err-write_whole
unfolding text_line
returns-in_err-write_whole g c = writes_failed c.from_residual-in_err-write_whole.ensures.0 (writes_as (live-lines-are c.args.pid (find nat_cmp c.args.pid c.args.parts.now.processes) c.requires) (writes_longer _ (writes_longer _ (writes_longer _ (writes_both (writes_both c.in_ok-write_front.ensures c.in_ok-write_live.ensures) c.in_err-write_whole.ensures)))))

pub returns-in_err-write_front-2 : goal.returns-in_err-write_front-2
unfolding text_line
returns-in_err-write_front-2 g c = writes_failed c.from_residual-in_err-write_front-2.ensures.0 (writes_as (live-lines-are c.args.pid (find nat_cmp c.args.pid c.args.parts.now.processes) c.requires) (writes_longer _ (writes_longer _ (writes_both (writes_both (writes_both c.in_ok-write_front.ensures c.in_ok-write_live.ensures) c.in_ok-write_whole.ensures) c.in_err-write_front-2.ensures))))

pub returns-in_err-write_next : goal.returns-in_err-write_next
unfolding text_line
returns-in_err-write_next g c = writes_failed c.from_residual-in_err-write_next.ensures.0 (writes_as (live-lines-are c.args.pid (find nat_cmp c.args.pid c.args.parts.now.processes) c.requires) (writes_longer _ (writes_both (writes_both (writes_both (writes_both c.in_ok-write_front.ensures c.in_ok-write_live.ensures) c.in_ok-write_whole.ensures) c.in_ok-write_front-2.ensures) c.in_err-write_next.ensures)))

pub returns : goal.returns
unfolding text_line
returns g c = writes_as (live-lines-are c.args.pid (find nat_cmp c.args.pid c.args.parts.now.processes) c.requires) (writes_both (writes_both (writes_both (writes_both (writes_both c.in_ok-write_front.ensures c.in_ok-write_live.ensures) c.in_ok-write_whole.ensures) c.in_ok-write_front-2.ensures) c.in_ok-write_next.ensures) c.write_whole-2.ensures)
