use Rattle.std.proofs.Common.{◌≡◌, take}
use Rattle.pv_procs.proofs.shared.share_programs.Given as goal

-- the slots so far are copied
abbrev pub invariant-loop-other : goal.invariant-loop-other
invariant-loop-other l = l.programs.items ≡ take l.other-index l.others
