use Rattle.std.proofs.Common.{◌≡◌, length}
use Rattle.pv_explain.proofs.UnknownWords.{unknown_from}
use Rattle.pv_explain.proofs.errors.first_unknown.Given as goal

-- the words so far are known
abbrev pub invariant-loop-word : goal.invariant-loop-word
invariant-loop-word l = unknown_from (length l.yielded) l.text ≡ unknown_from 0 l.text
