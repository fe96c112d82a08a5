use Rattle.std.proofs.Common.{sym, arith}
use Rattle.pv_cli_line.proofs.LineResults.{refused_line, verbose-wordless, verbose-words}
use Rattle.pv_cli_line.proofs.command.command_line_of.Goals as goal

pub returns-then-words-le1-clause-verbose : goal.returns-then-words-le1-clause-verbose
returns-then-words-le1-clause-verbose g c = sym (verbose-wordless g.S.AsStr.text c.args.words.now c.if-words-le1.true)

pub returns-clause-refused : goal.returns-clause-refused
returns-clause-refused g c = refused_line g.S.AsStr.text c.args.words.now c.parsed.result (omega (arith, c.if-words-le1.false)) c.parsed.ensures.refused

pub returns-clause-verbose : goal.returns-clause-verbose
returns-clause-verbose g c =
    verbose-words g.S.AsStr.text c.args.words.now c.parsed.result (omega (arith, c.if-words-le1.false)) c.parsed.ensures.verbose
