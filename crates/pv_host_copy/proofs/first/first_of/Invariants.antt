use Rattle.std.proofs.Common.{drop}
use Rattle.pv_host_copy.proofs.FirstPaths.{IsSought}
use Rattle.pv_host_copy.proofs.first.first_of.Given as goal

abbrev pub invariant-loop-first : goal.invariant-loop-first
invariant-loop-first l = IsSought l.fn.version l.identity (drop l.first-index l.firsts) l.firsts
