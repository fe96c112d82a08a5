use Rattle.std.proofs.Common.{◌≡◌, ◌≤◌, ◌*◌, ◌^◌, length, take}
use Rattle.pv_model.specs.Machine.{steps_of}
use Rattle.pv_session.proofs.running.step_count.Given as goal

abbrev pub invariant-loop-turn : goal.invariant-loop-turn
invariant-loop-turn l = record {
  steps : l.steps ≡ length (steps_of (take l.turn-index l.schedule));
  few : l.steps ≤ 2 ^ 32 * l.turn-index;
}
