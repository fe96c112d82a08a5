use Rattle.std.proofs.Common.{◌≡◌, filter, take}
use Rattle.pv_laws_classes.specs.Reduced.{may_step}
use Rattle.pv_reduced.proofs.search.those_moving.Given as goal

abbrev pub invariant-loop-pid : goal.invariant-loop-pid
invariant-loop-pid l = l.may.items ≡ filter (may_step l.bound) (take l.pid-index l.pids)
