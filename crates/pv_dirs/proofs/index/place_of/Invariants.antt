use Rattle.std.proofs.Common.{◌≡◌, drop}
use Rattle.pv_dirs.specs.Index.{sum_after}
use Rattle.pv_dirs.proofs.index.place_of.Given as goal

-- the hash so far, extended by the remaining bytes, is that of all
abbrev pub invariant-loop-byte : goal.invariant-loop-byte
invariant-loop-byte l = sum_after l.sum (drop l.byte-index l.name) ≡ sum_after l.directory l.name
