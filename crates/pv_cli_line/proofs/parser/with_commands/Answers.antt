use Rattle.std.proofs.Common.{◌+◌, ◌∙◌, sym, ap, drop}
use Rattle.std.proofs.lemmas.List.{at_drop_more}
use Rattle.clap.specs.Words.{app_of}
use Rattle.pv_cli_line.specs.Parser.{with_command, with_rows}
use Rattle.pv_cli_line.proofs.parser.with_commands.Goals as goal

pub loop-row-preserved : goal.loop-row-preserved
loop-row-preserved c =
    let command = c.in_ok-command_parser.ensures in
    let app = app_of c.loop-row.parser in
    let more = c.in_ok-parser.ensures.shape command.no_globals ∙ ap (with_command app) command.app_is in
    let rows = c.args.rows.now in
    let index = c.loop-row.row-index in
    ap (λ app. with_rows app (drop (index + 1) rows)) more
    ∙ sym (at_drop_more (with_rows app) rows index _ c.loop-row-test.true) ∙ c.loop-row.invariant
