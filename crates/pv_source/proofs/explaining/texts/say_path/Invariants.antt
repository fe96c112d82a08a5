use Rattle.std.specs.Option.{option_copied}
use Rattle.pv_text.specs.Components.{left_in}
use Rattle.pv_source.proofs.explaining.texts.say_path.Given as goal

abbrev pub invariant-loop-rest : goal.invariant-loop-rest
invariant-loop-rest l = Unit {0}

abbrev pub decreases-loop-rest : goal.decreases-loop-rest
decreases-loop-rest l = left_in (option_copied l.rest)
