use Rattle.std.proofs.Common.{◌≡◌, drop}
use Rattle.std.specs.List.{list_any}
use Rattle.pv_cli_line.specs.Line.{is_faulty}
use Rattle.pv_cli_line.proofs.command.faulty_path.Given as goal

abbrev pub invariant-loop-path : goal.invariant-loop-path
invariant-loop-path l = list_any is_faulty (drop l.path-index l.paths) ≡ list_any is_faulty l.paths
