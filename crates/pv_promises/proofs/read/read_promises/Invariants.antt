use Rattle.std.proofs.Common.{◌≡◌, length}
use Rattle.pv_model.specs.Promises.{keywords, set_of_keywords}
use Rattle.pv_promises.proofs.Keywords.{join_sets, set_from}
use Rattle.pv_promises.proofs.read.read_promises.Given as goal

-- the union of the words so far and those that remain is the set of the text
abbrev pub invariant-loop-word : goal.invariant-loop-word
invariant-loop-word l = join_sets l.set.0 (set_from (length l.yielded) l.text) ≡ set_of_keywords (keywords l.text)
