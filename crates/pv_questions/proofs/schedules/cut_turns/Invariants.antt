use Rattle.std.proofs.Common.{◌≡◌, ◌++◌, ◌≤◌, length, drop}
use Rattle.pv_questions.specs.Schedules.{first_steps}
use Rattle.pv_questions.proofs.schedules.cut_turns.Given as goal

abbrev pub invariant-loop-turn : goal.invariant-loop-turn
invariant-loop-turn l = record {
  value : l.first.items ++ first_steps l.left (drop l.turn-index l.turns) ≡ first_steps l.steps l.turns;
  few : length l.first.items ≡ l.turn-index;
}
