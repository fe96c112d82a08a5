use Rattle.std.proofs.Common.{◌≡◌, ◌++◌, length}
use Rattle.pv_source.specs.Reading.{spaced_more}
use Rattle.pv_model.specs.Machine.{between, words_from}
use Rattle.pv_source.proofs.words.push_more.Given as goal

abbrev pub invariant-loop-word : goal.invariant-loop-word
invariant-loop-word l = l.out.items ++ spaced_more (words_from l.rest between) ≡ l.fn.out.items ++ spaced_more (words_from l.words between)

abbrev pub decreases-loop-word : goal.decreases-loop-word
decreases-loop-word l = length l.rest
