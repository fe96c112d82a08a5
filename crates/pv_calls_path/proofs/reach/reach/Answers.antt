use Rattle.std.proofs.Common.{ap, sym, subst}
use Rattle.std.proofs.lemmas.Result.{IfOk-weaker, IfErr-weaker}
use Rattle.pv_calls_path.specs.Reached.{IsPlaceReached, IsStopped}
use Rattle.pv_model.specs.Machine.{walk_of, process_at}
use Rattle.pv_calls_path.proofs.CheckedWalks.{recorded}
use Rattle.pv_calls_path.proofs.reach.reach.Goals as goal

pub returns-clause-reaches : goal.returns-clause-reaches
returns-clause-reaches g c =
    let s = c.args.parts.now in
    IfOk-weaker c.reach_from.result _ _
    (λ place h. record {
      reached = λ me at. subst (λ start. IsPlaceReached s me start (walk_of c.args.walk) place)
          (sym (ap (λ r. r.directory) (recorded (process_at s c.args.pid) me c.record.result.now at c.record.ensures))) (h.reached me at);
      fine = h.fine;
    }) c.reach_from.ensures.reaches

pub returns-clause-stops : goal.returns-clause-stops
returns-clause-stops g c =
    let s = c.args.parts.now in
    IfErr-weaker c.reach_from.result _ _
    (λ why h. record {
      stopped = λ me at. subst (λ start. IsStopped s me start (walk_of c.args.walk) why)
          (sym (ap (λ r. r.directory) (recorded (process_at s c.args.pid) me c.record.result.now at c.record.ensures))) (h.stopped me at);
      few = h.few;
    }) c.reach_from.ensures.stops
