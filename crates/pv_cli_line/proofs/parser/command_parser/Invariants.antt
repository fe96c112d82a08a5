use Rattle.std.proofs.Common.{◌≡◌, false, drop}
use Rattle.clap.specs.Words.{app_of}
use Rattle.clap.specs.declared.builder.command.Command.TheViews.{out-Command}
use Rattle.pv_cli_line.specs.Parser.{app_of_row, with_arguments}
use Rattle.pv_cli_line.proofs.parser.command_parser.Given as goal

-- with the remaining arguments it is the parser of the row
abbrev pub invariant-loop-argument : goal.invariant-loop-argument
invariant-loop-argument l = record {
  rest : with_arguments (app_of l.parser) (drop l.argument-index l.argument-items) ≡ app_of_row l.row;
  no_globals : (out-Command l.parser).has_globals ≡ false;
}
