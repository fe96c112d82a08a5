use Rattle.std.proofs.Common.{◌≡◌, ◌∷◌, length}
use Rattle.pv_model.specs.Machine.{between, words_from, last_word}
use Rattle.pv_source.proofs.words.last_word.Given as goal

abbrev pub invariant-loop-word : goal.invariant-loop-word
invariant-loop-word l = last_word (l.last ∷ words_from l.rest between) ≡ last_word (words_from l.words between)

abbrev pub decreases-loop-word : goal.decreases-loop-word
decreases-loop-word l = length l.rest
