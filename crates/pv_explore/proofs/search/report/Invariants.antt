use Rattle.std.proofs.Common.{◌≡◌, drop}
use Rattle.pv_streams.proofs.WriterContracts.{WritesBut}
use Rattle.pv_explore.specs.Plan.{reported_after}
use Rattle.pv_explore.specs.Witnesses.{longer}
use Rattle.pv_explore.proofs.SearchSteps.{texts_left}
use Rattle.pv_step_cache.specs.Steps.{texts_in}
use Rattle.pv_explore.proofs.search.report.Given as goal

abbrev pub invariant-loop-text : goal.invariant-loop-text
invariant-loop-text g l =
    let long = longer l.witnesses l.number l.pid in
    record {
      left : WritesBut g.W.Sink (texts_left l.pid long (drop l.text-index l.texts) l.reported) (texts_left l.pid long l.texts l.fn.reported) l.fn.out l.out;
      reported : reported_after l.reported (texts_in (drop l.text-index l.texts)) ≡ reported_after l.fn.reported (texts_in l.texts);
    }
