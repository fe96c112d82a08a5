use Rattle.std.proofs.Common.{length}
use Rattle.pv_source.proofs.explaining.texts.say_inside.Given as goal

abbrev pub invariant-loop-following : goal.invariant-loop-following
invariant-loop-following l = Unit {0}

abbrev pub decreases-loop-following : goal.decreases-loop-following
decreases-loop-following l = length l.rest
