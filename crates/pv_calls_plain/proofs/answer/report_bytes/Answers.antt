use Rattle.std.proofs.Common.{◌∙◌, refl, sym}
use Rattle.pv_model.specs.Machine.{with_front}
use Rattle.pv_calls_plain.proofs.ReportedCollections.{live-update, same-front, collect-update}
use Rattle.pv_calls_plain.proofs.answer.report_bytes.Goals as goal

pub report_front-requires-clause-live : goal.report_front-requires-clause-live
report_front-requires-clause-live c = rw c.put_front.ensures (live-update c.args.parts.now c.args.pid _ c.requires.live)

pub returns : goal.returns
returns c = λ before s after me left.
    let bytes = c.args.bytes.now in
    c.report_front.ensures before s after me bytes refl
    (collect-update after c.args.parts.now c.args.pid (with_front bytes) (same-front bytes) c.invariant.ensures.processes.ascending left ∙ sym c.put_front.ensures)
