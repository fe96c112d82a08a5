use Rattle.std.proofs.Common.{◌≡◌, drop}
use Rattle.clap.specs.Words.{app_of}
use Rattle.pv_cli_line.specs.Parser.{with_rows}
use Rattle.pv_cli_line.proofs.parser.with_commands.Given as goal

-- with the remaining commands it has all of them
abbrev pub invariant-loop-row : goal.invariant-loop-row
invariant-loop-row l = with_rows (app_of l.parser) (drop l.row-index l.rows) ≡ with_rows (app_of l.fn.parser) l.rows
