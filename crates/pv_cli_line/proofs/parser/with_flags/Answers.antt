use Rattle.std.proofs.Common.{rules, ◌∙◌, ap}
use Rattle.clap.specs.Words.{app_of, with_rule}
use Rattle.pv_cli_line.specs.Parser.{quiet_rule}
use Rattle.pv_cli_line.proofs.parser.with_flags.Goals as goal

pub returns-clause-app : goal.returns-clause-app
returns-clause-app c =
    let app = app_of c.args.parser in
    let verbose = c.in_ok-verbose.ensures.shape c.in_ok-argument_of.ensures.local ∙ ap (with_rule app) c.in_ok-argument_of.ensures.rule in
    let quiet = c.in_ok-quiet.ensures.shape c.in_ok-argument_of-2.ensures.local ∙ ap (with_rule (app_of c.in_ok-verbose.verbose)) c.in_ok-argument_of-2.ensures.rule in
    quiet ∙ ap (λ more. with_rule more quiet_rule) verbose

pub returns-clause-globals : goal.returns-clause-globals
returns-clause-globals c none = search rules
