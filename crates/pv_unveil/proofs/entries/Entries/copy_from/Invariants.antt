use Rattle.std.proofs.Common.{◌≡◌, take}
use Rattle.pv_unveil.proofs.entries.Entries.copy_from.Given as goal

-- the entries so far
abbrev pub invariant-loop-target : goal.invariant-loop-target
invariant-loop-target l = l.self ≡ take l.target-index l.target-items
