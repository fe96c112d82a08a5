use Rattle.std.proofs.Common.{◌≡◌, take}
use Rattle.pv_step_cache.specs.Steps.{texts_in}
use Rattle.pv_explore.proofs.side.copy_of_texts.Given as goal

abbrev pub invariant-loop-text : goal.invariant-loop-text
invariant-loop-text l = texts_in l.copy.items ≡ take l.text-index (texts_in l.texts)
