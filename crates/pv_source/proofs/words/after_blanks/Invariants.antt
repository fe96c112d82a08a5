use Rattle.std.proofs.Common.{◌≡◌, ◌≤◌, length}
use Rattle.pv_model.specs.Machine.{between, words_from}
use Rattle.pv_source.proofs.words.after_blanks.Given as goal

abbrev pub invariant-loop-rest : goal.invariant-loop-rest
invariant-loop-rest l = record {
  same : words_from l.rest between ≡ words_from l.bytes between;
  shorter : length l.rest ≤ length l.bytes;
}

abbrev pub decreases-loop-rest : goal.decreases-loop-rest
decreases-loop-rest l = length l.rest
