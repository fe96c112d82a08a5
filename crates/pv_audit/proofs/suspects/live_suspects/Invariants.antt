use Rattle.std.proofs.Common.{◌≡◌, map}
use Rattle.pv_audit.proofs.LiveProcesses.{live_below, start}
use Rattle.pv_audit.proofs.suspects.live_suspects.Given as goal

abbrev pub invariant-loop-pid : goal.invariant-loop-pid
invariant-loop-pid l = l.suspects.items ≡ map start (live_below l.pid l.parts.processes)
