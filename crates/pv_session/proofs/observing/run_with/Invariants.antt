use Rattle.std.proofs.Common.{◌≤◌, ◌+◌, ◌*◌, ◌^◌, ◌++◌, drop, length}
use Rattle.std.specs.Prelude.{replicate}
use Rattle.pv_model.specs.Machine.{steps_of}
use Rattle.pv_session.specs.Observing.{observed}
use Rattle.pv_session.proofs.ObservedRuns.{AreMadeBut}
use Rattle.pv_session.proofs.observing.run_with.Given as goal

abbrev pub invariant-loop-turn : goal.invariant-loop-turn
invariant-loop-turn g l = record {
  made : AreMadeBut g.O.RunObserver.makes (steps_of (drop l.turn-index l.schedule)) (steps_of l.schedule)
      (observed l.fn.session l.fn.observer l.fn.out) (observed l.session l.observer l.out);
  few : length (steps_of l.schedule) ≤ 2 ^ 32 * l.turn-index + length (steps_of (drop l.turn-index l.schedule));
}

abbrev pub invariant-loop-left : goal.invariant-loop-left
invariant-loop-left g l =
    AreMadeBut g.O.RunObserver.makes (replicate l.left l.pid ++ steps_of (drop (l.turn-index + 1) l.schedule)) (steps_of l.schedule)
    (observed l.fn.session l.fn.observer l.fn.out) (observed l.session l.observer l.out)

abbrev pub decreases-loop-left : goal.decreases-loop-left
decreases-loop-left g l = l.left
