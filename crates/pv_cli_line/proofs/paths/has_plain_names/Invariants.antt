use Rattle.std.proofs.Common.{◌≡◌, drop}
use Rattle.pv_cli_line.specs.Paths.{has_plain_names}
use Rattle.pv_cli_line.proofs.paths.has_plain_names.Given as goal

abbrev pub invariant-loop-at : goal.invariant-loop-at
invariant-loop-at l = has_plain_names (drop l.at l.path) ≡ has_plain_names l.path
