use Rattle.std.proofs.Common.{◌≡◌, map, take}
use Rattle.pv_explore.specs.Afters.{own_or}
use Rattle.pv_explore.proofs.after.with_own.Given as goal

abbrev pub invariant-loop-cell : goal.invariant-loop-cell
invariant-loop-cell l = l.after.items ≡ map (own_or l.pid l.own) (take l.cell-index l.cells)
