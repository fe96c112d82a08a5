use Rattle.std.proofs.Common.{rules, ◌+◌, ◌∙◌, sym, ap, drop}
use Rattle.std.proofs.lemmas.List.{at_drop_all, at_drop_more}
use Rattle.clap.specs.Words.{app_of, with_rule}
use Rattle.clap.specs.Simple.{app_of_fields}
use Rattle.pv_cli_line.specs.Parser.{with_arguments, with_flags}
use Rattle.pv_cli_line.proofs.parser.command_parser.Goals as goal

-- the flags that each command takes come first
pub loop-argument-init : goal.loop-argument-init
loop-argument-init c =
    let bare = ap app_of_fields c.after_help-bare.ensures ∙ ap app_of_fields c.about.ensures ∙ c.new.ensures.app in
    let command = c.in_ok-parser.ensures.app ∙ ap with_flags bare in
    record {
      rest = ap (λ app. with_arguments app c.args.row.now.arguments.now) command;
      no_globals = search rules;
    }

pub loop-argument-preserved : goal.loop-argument-preserved
loop-argument-preserved c =
    let added = c.in_ok-parser-2.ensures.shape c.in_ok-argument_of.ensures.local in
    let app = app_of c.loop-argument.parser in
    let more = added ∙ ap (with_rule app) c.in_ok-argument_of.ensures.rule in
    let arguments = c.args.row.now.arguments.now in
    let index = c.loop-argument.argument-index in
    record {
      rest = ap (λ app. with_arguments app (drop (index + 1) arguments)) more
          ∙ sym (at_drop_more (with_arguments app) arguments index _ c.loop-argument-test.true) ∙ c.loop-argument.invariant.rest;
      no_globals = search rules;
    }

pub returns : goal.returns
returns c =
    let app = app_of c.loop-argument.parser in
    let arguments = c.args.row.now.arguments.now in
    let index = c.loop-argument.argument-index in
    record {
      app_is = sym (at_drop_all (with_arguments app) arguments index c.loop-argument-test.false) ∙ c.loop-argument.invariant.rest;
      no_globals = c.loop-argument.invariant.no_globals;
    }
